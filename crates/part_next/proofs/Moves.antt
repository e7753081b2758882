-- The moves that bits say: one law for both mixed states, since the arcs out of WB are those out of BW with every bit turned but the last of
-- the arcs of four, which says the solid state.
use mathlib.Core.Path.{◌≡◌, refl}
use mathlib.Core.List.{List, [], ◌∷◌}
use mathlib.Core.Logic.{◌≢◌}
use Prim.Native.Nat.{ℕ, suc, ◌+◌, ◌-◌, ◌<◌}
use native.Mathlib.Numerals.{add-one}
use native.Mathlib.Omega.{arith}
use Rattle.octets.specs.Bits.{Bit, O, I, to_bit, bit_num, bit_at, bits_from}
use Rattle.octets.proofs.Fields.{bit_lt}
use Rattle.state.specs.declared.Mixed.{Mixed}
use Rattle.state.specs.declared.Mixed.TheVariants.{WB, BW}
use Rattle.state.specs.declared.Solid.{Solid}
use Rattle.diagram.specs.Diagram.{cross}
use Rattle.diagram.specs.Decoder.{onto, begin, bit, finish, follow, decode_from, starts, decode_at}
use Rattle.part_next.specs.declared.MixedMove.{MixedMove}
use Rattle.part_next.specs.declared.MixedMove.TheVariants.{Stay, Cross, Leave}
use Rattle.part_next.specs.declared.SolidMove.TheVariants.{ToSolid, ToMixed, Open as OpenWay}
use Rattle.part_next.specs.Next.{own, solid_of, Moves, Leaves}
use Rattle.std.specs.Prelude.{Some, None, Result, Ok, Err}
use Rattle.diagram.specs.declared.Bits.{Bits}

-- the first bit of the arcs out of a mixed state, and the other bit
abbrev X : Mixed → Bit
X m = to_bit (own m)

abbrev Y : Mixed → Bit
Y m = to_bit (own (cross m))

-- no move, but so many bits have a reading
abbrev none_but : ℕ → Result MixedMove Bits
none_but k = Err (record { 0 = k })

-- which move the bits say
pub data Says (m : Mixed) : List Bit → Result MixedMove Bits → Type 0 where
  other_first : {bs : List Bit} → Says m (Y m ∷ bs) (none_but 0)
  stays_last : Says m (X m ∷ []) (Ok Stay)
  stays : {bs : List Bit} → Says m (X m ∷ X m ∷ bs) (Ok Stay)
  cut_two : Says m (X m ∷ Y m ∷ []) (none_but 1)
  crosses_last : Says m (X m ∷ Y m ∷ X m ∷ []) (Ok Cross)
  cut_three : Says m (X m ∷ Y m ∷ Y m ∷ []) (none_but 1)
  crosses : {bs : List Bit} → Says m (X m ∷ Y m ∷ X m ∷ Y m ∷ bs) (Ok Cross)
  near : {bs : List Bit} → Says m (X m ∷ Y m ∷ X m ∷ X m ∷ bs) (Ok (Leave (solid_of (own m))))
  no_arc : {bs : List Bit} → Says m (X m ∷ Y m ∷ Y m ∷ X m ∷ bs) (none_but 1)
  far : {bs : List Bit} → Says m (X m ∷ Y m ∷ Y m ∷ Y m ∷ bs) (Ok (Leave (solid_of (own (cross m)))))

pub moves_by : (m : Mixed) {bs : List Bit} {r : Result MixedMove Bits} → Says m bs r → Moves m bs r
unfolding decode_at starts decode_from follow bit finish onto begin
moves_by BW other_first = record { is = λ l. refl; enough = omega arith }
moves_by BW stays_last = record { is = λ l. refl; enough = omega arith }
moves_by BW stays = record { is = λ l. refl; enough = omega arith }
moves_by BW cut_two = record { is = λ l. refl; enough = omega arith }
moves_by BW crosses_last = record { is = λ l. refl; enough = omega arith }
moves_by BW cut_three = record { is = λ l. refl; enough = omega arith }
moves_by BW crosses = record { is = λ l. refl; enough = omega arith }
moves_by BW near = record { is = λ l. refl; enough = omega arith }
moves_by BW no_arc = record { is = λ l. refl; enough = omega arith }
moves_by BW far = record { is = λ l. refl; enough = omega arith }
moves_by WB other_first = record { is = λ l. refl; enough = omega arith }
moves_by WB stays_last = record { is = λ l. refl; enough = omega arith }
moves_by WB stays = record { is = λ l. refl; enough = omega arith }
moves_by WB cut_two = record { is = λ l. refl; enough = omega arith }
moves_by WB crosses_last = record { is = λ l. refl; enough = omega arith }
moves_by WB cut_three = record { is = λ l. refl; enough = omega arith }
moves_by WB crosses = record { is = λ l. refl; enough = omega arith }
moves_by WB near = record { is = λ l. refl; enough = omega arith }
moves_by WB no_arc = record { is = λ l. refl; enough = omega arith }
moves_by WB far = record { is = λ l. refl; enough = omega arith }

-- ---- the bits of octets one by one

-- bit i is a bit's; the bits from i on are it and the bits after it
pub first : (s : List ℕ) (i j n k : ℕ) (b : Bit) → bit_at s i ≡ b → j ≡ i + 1 → n ≡ suc k → bits_from s i n ≡ b ∷ bits_from s j k
unfolding bits_from
first s i j n k b e p q = rw (q, p, e, add-one i) refl

pub none : (s : List ℕ) (i n : ℕ) → n ≡ 0 → bits_from s i n ≡ []
unfolding bits_from
none s i n e = rw e refl

pub is_own : (s : List ℕ) (i : ℕ) (m : Mixed) → bit_num s i ≡ own m → bit_at s i ≡ X m
unfolding bit_at
is_own s i m e = rw e refl

pub not_own : (s : List ℕ) (i : ℕ) (m : Mixed) → bit_num s i ≢ own m → (bit_at s i ≡ Y m) × (bit_num s i ≡ own (cross m))
unfolding bit_at
not_own s i m e = let g = go m (bit_num s i) (bit_lt s i) e in (rw g refl, g)
  where
    go : (m : Mixed) (b : ℕ) → b < 2 → b ≢ own m → b ≡ own (cross m)
    go BW b h e = omega arith
    go WB b h e = omega arith

-- The bits from bit i on say a move.
module _ (s : List ℕ) (i n : ℕ) (m : Mixed) where
  pub wrong_first : 0 < n → bit_num s i ≢ own m → Moves m (bits_from s i n) (none_but 0)
  wrong_first h e = rw (first s i (i + 1) n (n - 1) (Y m) (not_own s i m e).0 refl (omega arith)) (moves_by m other_first)

  module _ (a : bit_num s i ≡ own m) where
    pub one_left : n ≡ 1 → Moves m (bits_from s i n) (Ok Stay)
    one_left h = rw (first s i (i + 1) n 0 (X m) (is_own s i m a) refl h, none s (i + 1) 0 refl) (moves_by m stays_last)

    pub own_twice : 1 < n → bit_num s (i + 1) ≡ own m → Moves m (bits_from s i n) (Ok Stay)
    own_twice h b = rw (
      first s i (i + 1) n (n - 1) (X m) (is_own s i m a) refl (omega arith),
      first s (i + 1) (i + 2) (n - 1) (n - 2) (X m) (is_own s (i + 1) m b) (omega arith) (omega arith),
    ) (moves_by m stays)

    module _ (b : bit_num s (i + 1) ≢ own m) where
      two : 1 < n → bits_from s i n ≡ X m ∷ Y m ∷ bits_from s (i + 2) (n - 2)
      two h = rw (
        first s i (i + 1) n (n - 1) (X m) (is_own s i m a) refl (omega arith),
        first s (i + 1) (i + 2) (n - 1) (n - 2) (Y m) (not_own s (i + 1) m b).0 (omega arith) (omega arith),
      ) refl

      pub two_left : n ≡ 2 → Moves m (bits_from s i n) (none_but 1)
      two_left h = let e : n - 2 ≡ 0 = omega arith in rw (two (omega arith), none s (i + 2) (n - 2) e) (moves_by m cut_two)

      three : (c : Bit) → bit_at s (i + 2) ≡ c → 2 < n → bits_from s i n ≡ X m ∷ Y m ∷ c ∷ bits_from s (i + 3) (n - 3)
      three c e h = rw (two (omega arith), first s (i + 2) (i + 3) (n - 2) (n - 3) c e (omega arith) (omega arith)) refl

      four : (c d : Bit) → bit_at s (i + 2) ≡ c → bit_at s (i + 3) ≡ d → 3 < n → bits_from s i n ≡ X m ∷ Y m ∷ c ∷ d ∷ bits_from s (i + 4) (n - 4)
      four c d e f h = rw (three c e (omega arith), first s (i + 3) (i + 4) (n - 3) (n - 4) d f (omega arith) (omega arith)) refl

      module _ (c : bit_num s (i + 2) ≡ own m) where
        pub three_left : n ≡ 3 → Moves m (bits_from s i n) (Ok Cross)
        three_left h = let e : n - 3 ≡ 0 = omega arith in rw (three (X m) (is_own s (i + 2) m c) (omega arith), none s (i + 3) (n - 3) e) (moves_by m crosses_last)

        pub other_fourth : 3 < n → bit_num s (i + 3) ≢ own m → Moves m (bits_from s i n) (Ok Cross)
        other_fourth h d = rw (four (X m) (Y m) (is_own s (i + 2) m c) (not_own s (i + 3) m d).0 h) (moves_by m crosses)

        pub own_fourth : 3 < n → (b : ℕ) (t : Solid) → b ≡ bit_num s (i + 3) → t ≡ solid_of b → bit_num s (i + 3) ≡ own m → Moves m (bits_from s i n) (Ok (Leave t))
        own_fourth h b t e f d = rw (f, e, four (X m) (X m) (is_own s (i + 2) m c) (is_own s (i + 3) m d) h, d) (moves_by m near)

      module _ (c : bit_num s (i + 2) ≢ own m) where
        pub three_cut : n ≡ 3 → Moves m (bits_from s i n) (none_but 1)
        three_cut h = let e : n - 3 ≡ 0 = omega arith in rw (three (Y m) (not_own s (i + 2) m c).0 (omega arith), none s (i + 3) (n - 3) e) (moves_by m cut_three)

        pub wrong_fourth : 3 < n → bit_num s (i + 3) ≡ own m → Moves m (bits_from s i n) (none_but 1)
        wrong_fourth h d = rw (four (Y m) (X m) (not_own s (i + 2) m c).0 (is_own s (i + 3) m d) h) (moves_by m no_arc)

        pub far_fourth : 3 < n → (b : ℕ) (t : Solid) → b ≡ bit_num s (i + 3) → t ≡ solid_of b → bit_num s (i + 3) ≢ own m → Moves m (bits_from s i n) (Ok (Leave t))
        far_fourth h b t e f d =
            let g = not_own s (i + 3) m d in rw (f, e, four (Y m) (Y m) (not_own s (i + 2) m c).0 g.0 h, g.1) (moves_by m far)

-- ---- out of a solid state

pub no_way : (s : List ℕ) (i n : ℕ) → n ≡ 0 → Leaves (bits_from s i n) None
unfolding decode_at starts decode_from finish
no_way s i n h = rw (none s i n h) record { is = λ t l. refl; enough = omega arith }

pub across_way : (s : List ℕ) (i n : ℕ) → 0 < n → bit_num s i ≡ 0 → Leaves (bits_from s i n) (Some ToSolid)
unfolding decode_at starts decode_from follow bit
across_way s i n h e = rw (first s i (i + 1) n (n - 1) O (is_own s i BW e) refl (omega arith)) record { is = λ t l. refl; enough = omega arith }

module _ (s : List ℕ) (i n : ℕ) (e : bit_num s i ≢ 0) where
  one : 0 < n → bits_from s i n ≡ I ∷ bits_from s (i + 1) (n - 1)
  one h = first s i (i + 1) n (n - 1) I (not_own s i BW e).0 refl (omega arith)

  pub open_way : n ≡ 1 → Leaves (bits_from s i n) (Some OpenWay)
  unfolding decode_at starts decode_from follow bit finish
  open_way h = let d : n - 1 ≡ 0 = omega arith in rw (one (omega arith), none s (i + 1) (n - 1) d) record { is = λ t l. refl; enough = omega arith }

  pub aside_BW : 1 < n → bit_num s (i + 1) ≡ 0 → Leaves (bits_from s i n) (Some (ToMixed BW))
  unfolding decode_at starts decode_from follow bit
  aside_BW h f =
      rw (one (omega arith), first s (i + 1) (i + 2) (n - 1) (n - 2) O (is_own s (i + 1) BW f) (omega arith) (omega arith))
      record { is = λ t l. refl; enough = omega arith }

  pub aside_WB : 1 < n → bit_num s (i + 1) ≢ 0 → Leaves (bits_from s i n) (Some (ToMixed WB))
  unfolding decode_at starts decode_from follow bit
  aside_WB h f =
      rw (one (omega arith), first s (i + 1) (i + 2) (n - 1) (n - 2) I (not_own s (i + 1) BW f).0 (omega arith) (omega arith))
      record { is = λ t l. refl; enough = omega arith }
