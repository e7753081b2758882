-- Laws of rows, one behind the other, and of the file that a bitmap is written as. Assumes nothing.
use mathlib.Core.Path.{◌≡◌, refl, ap, ◌∙◌}
use mathlib.Core.List.{List, [], ◌∷◌, ◌++◌, flatten}
use Prim.Native.Nat.{ℕ, zero, suc, ◌+◌, ◌-◌, ◌*◌, ◌<◌, ◌≤◌}
use native.Mathlib.Omega.{arith}
use lib.ListN.{length, get_or, take, drop, length-append, length-drop}
use Rattle.std.proofs.lemmas.List.{get_or-take}
use lib.Seq.{drop-drop, take-take, length-take-le}
use Rattle.bitmap.specs.Form.{lines_of}
use Rattle.bitmap.specs.Validity.{bitmap_validity}
use Rattle.printing.specs.declared.Times.{Times}
use Rattle.printing.specs.Printing.{times_of, printed_rows}
use Rattle.printing.proofs.Rows.{Printed, printed, length_printed, sized_printed, length_flatten}
use Rattle.pbm.specs.Read.{cleared, row_in, rows_in}
use Rattle.pbm.specs.Written.{head_text, pbm_of}
use Rattle.text.specs.Text.{codes, decimal}
use Rattle.text.proofs.Digits.{few_digits}
use Rattle.refusal.specs.Reply.{valid}

-- ---- rows of a file, taken

pub length_row : (cs : List ℕ) → 216 ≤ length cs → length (row_in cs) ≡ 216
unfolding row_in
length_row cs h = length-append (take 215 cs) (cleared (get_or cs 215 0) ∷ []) ∙ rw (length-take-le 215 cs (omega arith)) refl

-- a row goes by its own octets
pub row_alone : (cs : List ℕ) → row_in (take 216 cs) ≡ row_in cs
unfolding row_in
row_alone cs = rw (take-take 215 216 cs (omega arith), get_or-take 216 cs 215 0 (omega arith)) refl

pub length_rows : (n : ℕ) (cs : List ℕ) → 216 * n ≤ length cs → length (rows_in n cs) ≡ 216 * n
unfolding rows_in
length_rows zero cs h = refl
length_rows (suc n) cs h =
    length-append (row_in cs) (rows_in n (drop 216 cs))
    ∙ rw (length_row cs (omega arith), length_rows n (drop 216 cs) (simp length-drop (omega arith))) (omega arith)

pub rows_first : (cs : List ℕ) (at : ℕ) {r n : ℕ} → r < n → rows_in (n - r) (drop at cs) ≡ row_in (drop at cs) ++ rows_in (n - (r + 1)) (drop (at + 216) cs)
unfolding rows_in
rows_first cs at {r} {n} h =
    let e : n - r ≡ suc (n - (r + 1)) = omega arith in
    rw (e, drop-drop 216 at cs)

pub rows_end : (cs : List ℕ) {r n : ℕ} → n ≤ r → rows_in (n - r) cs ≡ []
unfolding rows_in
rows_end cs {r} {n} h = let e : n - r ≡ 0 = omega arith in rw e

-- ---- the file of a bitmap

pub head_length : (n : ℕ) → length (head_text n) ≡ 9 + length (decimal n)
unfolding head_text codes
head_length n = omega (arith, length-append (codes "P4\n1726 " ++ decimal n) (codes "\n"))

-- of a page that is printed at most three times the head is short
pub head_short : (n : ℕ) → n ≤ 3 * 65535 → length (head_text n) ≤ 15
head_short n h = omega (arith, head_length n, few_digits n 6 (omega arith) (omega arith))

-- the file of a bitmap that is taken
pub record File (bm : List ℕ) (times : Times) (n : ℕ) : Type 0 where
  pub page : Printed bm times n
  pub head : length (head_text (times_of times * n)) ≤ 15
  pub parts : pbm_of times bm ≡ head_text (times_of times * n) ++ flatten (printed_rows (times_of times) n (drop 4 bm))
  pub body : length (flatten (printed_rows (times_of times) n (drop 4 bm))) ≡ 216 * (times_of times * n)
  pub size : length (pbm_of times bm) ≡ length (head_text (times_of times * n)) + 216 * (times_of times * n)

pub file_of_lem : (bm : List ℕ) (times : Times) {n : ℕ} → bitmap_validity bm ≡ valid → n ≡ lines_of bm → File bm times n
unfolding pbm_of
file_of_lem bm times {n} e f =
    let t : ℕ = times_of times in
    let g : _ = printed bm times e f in
    let p : head_text (t * lines_of bm) ++ flatten (printed_rows t (lines_of bm) (drop 4 bm)) ≡ head_text (t * n) ++ flatten (printed_rows t n (drop 4 bm)) = rw f refl in
    let q : length (flatten (printed_rows t n (drop 4 bm))) ≡ 216 * (t * n) =
    length_flatten 216 (printed_rows t n (drop 4 bm)) (sized_printed t n (drop 4 bm) (simp length-drop (omega arith))) ∙ rw (length_printed t n (drop 4 bm)) refl in
    record {
      page = g;
      head = head_short (t * n) g.few;
      parts = p;
      body = q;
      size = ap length p ∙ length-append (head_text (t * n)) (flatten (printed_rows t n (drop 4 bm))) ∙ rw q refl;
    }
