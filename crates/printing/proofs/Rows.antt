-- Laws of printed rows: how many they are and how long, and which row of the bitmap each is. Assumes nothing.
use mathlib.Core.Path.{◌≡◌, refl, ap, ◌∙◌}
use mathlib.Core.List.{List, [], ◌∷◌, ◌++◌, flatten}
use Prim.Native.Nat.{ℕ, zero, suc, ◌+◌, ◌-◌, ◌*◌, ◌/◌, ◌<◌, ◌≤◌}
use native.Mathlib.Decide.{dec_lt}
use native.Mathlib.Nat.{div-eq_of_lt, div-eq-sub-div, div-lt_iff_lt-mul, mul-le-mul, mul_comm}
use native.Mathlib.Numerals.{add-one}
use native.Mathlib.Omega.{arith}
use lib.ListN.{length, get_or, take, drop, replicate, length-append, length-drop, length-replicate, get_or-replicate, get_or-append}
use lib.Seq.{drop-cons, drop-drop, get_or-append-add, length-take-le}
use Rattle.bitmap.specs.Form.{lines_of}
use Rattle.bitmap.specs.Validity.{bitmap_validity}
use Rattle.bitmap.proofs.Pels.{most_small}
use Rattle.bitmap.proofs.Taken.{legal}
use Rattle.printing.specs.declared.Times.{Times}
use Rattle.printing.specs.declared.Times.TheVariants.{Once, Twice, Thrice}
use Rattle.printing.specs.Printing.{times_of, printed_rows, row_place}
use Rattle.refusal.specs.Reply.{valid}

-- ---- how many rows

pub length_printed : (times n : ℕ) (cs : List ℕ) → length (printed_rows times n cs) ≡ times * n
unfolding printed_rows
length_printed times zero cs = omega arith
length_printed times (suc n) cs =
    length-append (replicate times (take 216 cs)) (printed_rows times n (drop 216 cs))
    ∙ rw (length-replicate times (take 216 cs), length_printed times n (drop 216 cs)) (omega arith)

-- ---- how long they are

-- each has so many octets
abbrev pub Sized : ℕ → List (List ℕ) → Type 0
Sized w [] = Unit {0}
Sized w (row ∷ rows) = (length row ≡ w) × Sized w rows

sized_more : (w times : ℕ) (row : List ℕ) (rows : List (List ℕ)) → length row ≡ w → Sized w rows → Sized w (replicate times row ++ rows)
sized_more w zero row rows e s = s
sized_more w (suc times) row rows e s = (e, sized_more w times row rows e s)

pub sized_printed : (times n : ℕ) (cs : List ℕ) → 216 * n ≤ length cs → Sized 216 (printed_rows times n cs)
unfolding printed_rows
sized_printed times zero cs h = tt
sized_printed times (suc n) cs h =
    sized_more 216 times (take 216 cs) (printed_rows times n (drop 216 cs)) (length-take-le 216 cs (omega arith))
    (sized_printed times n (drop 216 cs) (simp length-drop (omega arith)))

pub length_flatten : (w : ℕ) (rows : List (List ℕ)) → Sized w rows → length (flatten rows) ≡ w * length rows
unfolding flatten
length_flatten w [] s = omega arith
length_flatten w (row ∷ rows) s = length-append row (flatten rows) ∙ rw (s.0, length_flatten w rows s.1) (omega arith)

-- ---- which row each is

row_is : (times n k : ℕ) (cs : List ℕ) → 0 < times → k < times * n → get_or (printed_rows times n cs) k [] ≡ take 216 (drop (216 * (k / times)) cs)
unfolding printed_rows
row_is times zero k cs p h = absurd (omega arith)
row_is times (suc n) k cs p h = go (dec_lt k times) (λ l. row_is times n (k - times) (drop 216 cs) p l)
  where
    row : List ℕ
    row = take 216 cs

    rest : List (List ℕ)
    rest = printed_rows times n (drop 216 cs)

    go : Dec (k < times) → (k - times < times * n → get_or rest (k - times) [] ≡ take 216 (drop (216 * ((k - times) / times)) (drop 216 cs)))
        → get_or (replicate times row ++ rest) k [] ≡ take 216 (drop (216 * (k / times)) cs)
    go (yes l) f =
        rw (div-eq_of_lt l)
        (get_or-append (replicate times row) rest [] k (rw (length-replicate times row) l) ∙ get_or-replicate times k row [] l)
    go (no l) f =
        let e : k ≡ length (replicate times row) + (k - times) = rw (length-replicate times row) (omega arith) in
        let d : 216 + 216 * ((k - times) / times) ≡ 216 * (k / times) = omega (arith, div-eq-sub-div {m = times} {n = k} p (omega arith)) in
        ap (λ (i : ℕ). get_or (replicate times row ++ rest) i []) e
        ∙ get_or-append-add (replicate times row) rest (k - times) []
        ∙ f (omega arith)
        ∙ rw (drop-drop (216 * ((k - times) / times)) 216 cs, d) refl

pub times_few : (times : Times) → (0 < times_of times) × (times_of times ≤ 3)
times_few Once = (omega arith, omega arith)
times_few Twice = (omega arith, omega arith)
times_few Thrice = (omega arith, omega arith)

module _ (times : Times) (n k : ℕ) (h : k < times_of times * n) where
  -- the row that is printed as row k stands in the bitmap at its place, inside
  pub place_inside : row_place times k + 216 ≤ 4 + 216 * n
  place_inside =
      let l : k < n * times_of times = rw (mul_comm n (times_of times)) h in
      omega (arith, (div-lt_iff_lt-mul (times_few times).0).1 l)

  module _ (bm : List ℕ) where
    pub printed_row : get_or (printed_rows (times_of times) n (drop 4 bm)) k [] ≡ take 216 (drop (row_place times k) bm)
    printed_row = row_is (times_of times) n k (drop 4 bm) (times_few times).0 h ∙ rw (drop-drop (216 * (k / times_of times)) 4 bm) refl

    pub long_row : 4 + 216 * n ≤ length bm → length (take 216 (drop (row_place times k) bm)) ≡ 216
    long_row l = length-take-le 216 (drop (row_place times k) bm) (simp length-drop (omega (arith, place_inside)))

    -- what is left from row k on: that row, and what is left behind it
    pub printed_first : let rows = printed_rows (times_of times) n (drop 4 bm) in drop k rows ≡ get_or rows k [] ∷ drop (k + 1) rows
    printed_first =
        let t : ℕ = times_of times in
        let l : length (printed_rows t n (drop 4 bm)) ≡ t * n = length_printed t n (drop 4 bm) in
        drop-cons (printed_rows t n (drop 4 bm)) k [] (omega arith) ∙ rw (add-one k) refl

-- ---- a bitmap of n lines that is taken

pub record Printed (bm : List ℕ) (times : Times) (n : ℕ) : Type 0 where
  pub lines_are : n ≡ lines_of bm
  pub rows : 4 + 216 * n ≤ length bm
  pub few : times_of times * n ≤ 3 * 65535

pub printed : (bm : List ℕ) (times : Times) {n : ℕ} → bitmap_validity bm ≡ valid → n ≡ lines_of bm → Printed bm times n
printed bm times {n} e f =
    let l : _ = legal bm e in
    let k : n ≤ 65535 = omega (arith, l.lines.few, most_small) in
    record { lines_are = f; rows = omega (arith, l.size); few = mul-le-mul (times_few times).1 k }
