-- A record in the beginning of a file: it is the same in all of the file, unless the beginning stops before it is whole. Assumes nothing.
use mathlib.Core.Path.{◌≡◌, refl, sym, ap, ◌∙◌}
use mathlib.Core.Bool.{Bool, true, false, cond}
use mathlib.Core.List.{List, ◌++◌}
use Prim.Native.Nat.{ℕ, ◌+◌, ◌*◌, ◌-◌, ◌≤◌}
use native.Mathlib.Decide.{dec_le}
use native.Mathlib.Omega.{arith}
use lib.Dec.{eqb}
use lib.ListN.{length, get_or, drop, length-append, length-drop, get_or-append}
use lib.Seq.{drop-append-le}
use Rattle.turning.specs.Turned.{turned_from}
use Rattle.refusal.specs.declared.Reason.TheVariants.{RecordIncomplete, RecordUnknown}
use Rattle.frame.specs.declared.FrameKind.{FrameKind}
use Rattle.frame.specs.declared.FrameKind.TheVariants.{SetUp, Data}
use Rattle.records.specs.declared.Kind.TheVariants.{End}
use Rattle.records.specs.Records.{whole, pair_of, due_at, sent_at}
use Rattle.records.proofs.Order.{whole_short, whole_enough, due_missing, due_pair}
use Rattle.records.proofs.Within.{turned_front}
use Rattle.std.specs.Prelude.{Ok, Err}

-- where it is not incomplete with some octets left, it is the same with more
whole_more : (kind : FrameKind) (left more : ℕ) → left ≤ more → (whole kind left ≡ Err RecordIncomplete → ⊥) → whole kind more ≡ whole kind left
whole_more kind left more h not-cut = go (dec_le 76 left)
  where
    go : Dec (76 ≤ left) → whole kind more ≡ whole kind left
    go (yes l) = sym (whole_enough kind more (omega arith)) ∙ whole_enough kind left l
    go (no l) = absurd (not-cut (sym (whole_short kind left (omega arith))))

pair_more : (len command left more : ℕ) → left ≤ more → (pair_of len command left ≡ Err RecordIncomplete → ⊥) → pair_of len command more ≡ pair_of len command left
unfolding pair_of
pair_more len command left more h not-cut = go (eqb len 2) (eqb command 58) (eqb len 76) (eqb command 56) (eqb command 57) not-cut
  where
    go : (a b c d e : Bool) →
        (cond a (cond b (Ok End) (Err RecordUnknown)) (cond c (cond d (whole SetUp left) (cond e (whole Data left) (Err RecordUnknown))) (Err RecordUnknown)) ≡ Err RecordIncomplete → ⊥) →
        cond a (cond b (Ok End) (Err RecordUnknown)) (cond c (cond d (whole SetUp more) (cond e (whole Data more) (Err RecordUnknown))) (Err RecordUnknown)) ≡
        cond a (cond b (Ok End) (Err RecordUnknown)) (cond c (cond d (whole SetUp left) (cond e (whole Data left) (Err RecordUnknown))) (Err RecordUnknown))
    go true b c d e f = refl
    go false b true true e f = whole_more SetUp left more h f
    go false b true false true f = whole_more Data left more h f
    go false b true false false f = refl
    go false b false d e f = refl

module _ (file rest : List ℕ) where
  pub due_beginning : (at : ℕ) → (due_at file at ≡ Err RecordIncomplete → ⊥) → due_at (file ++ rest) at ≡ due_at file at
  due_beginning at not-cut = go (dec_le (at + 2) (length file))
    where
      go : Dec (at + 2 ≤ length file) → due_at (file ++ rest) at ≡ due_at file at
      go (yes h) =
          let n = length-append file rest in
          let a = get_or-append file rest 0 at (omega arith) in
          let b = get_or-append file rest 0 (at + 1) (omega arith) in
          let p = due_pair file at h in
          sym (due_pair (file ++ rest) at (omega arith))
          ∙ rw (a, b) (pair_more (get_or file at 0) (get_or file (at + 1) 0) (length file - at) (length (file ++ rest) - at) (omega arith) (λ e. not-cut (sym p ∙ e)))
          ∙ p
      go (no h) = absurd (not-cut (sym (due_missing file at (omega arith))))

  pub sent_beginning : (k : ℕ) → 76 * k + 76 ≤ length file → sent_at (file ++ rest) k ≡ sent_at file k
  sent_beginning k h =
      ap (λ (s : List ℕ). turned_from s 0 74) (drop-append-le (76 * k + 2) file rest (omega arith))
      ∙ turned_front 74 0 (drop (76 * k + 2) file) rest (simp length-drop (omega arith))
