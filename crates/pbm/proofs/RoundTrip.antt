-- What is written reads back: of the file that a bitmap is written as, each line once, and of anything behind it, the bitmap is read.
-- And every bitmap that is read is one that is taken. Assumes nothing.
use mathlib.Core.Path.{◌≡◌, refl, sym, ap, ap₂, subst, ◌∙◌}
use mathlib.Core.Bool.{true, false}
use mathlib.Core.List.{List, [], ◌∷◌, ◌++◌, flatten, append_assoc, append-nil}
use Prim.Native.Nat.{ℕ, zero, suc, ◌+◌, ◌*◌, ◌/◌, ◌%◌, ◌<◌, ◌≤◌}
use native.Mathlib.Nat.{one-mul}
use native.Mathlib.Omega.{arith}
use borrow.Author.Tests.{ne_eqb, le-leb, lt-leb}
use lib.ListN.{length, get_or, take, drop, length-append, length-drop, take-append-drop, get_or-append}
use lib.Seq.{ext_get_or, get_or-take, get_or-drop, get_or-append-add, drop-append-add, drop-append-le, take-append-le, take-suc, length-take-le}
use Rattle.basics.specs.Octets.{Octets}
use Rattle.basics.specs.Placed.{at_front}
use Rattle.refusal.specs.Reply.{Outcome, valid}
use Rattle.text.specs.Text.{codes, digit, decimal, digits_value_from}
use Rattle.text.proofs.Digits.{decimal_ind, decimal_value, some_digits}
use Rattle.bitmap.specs.Form.{sizes, lines_of}
use Rattle.bitmap.specs.Validity.{lines_allowed, bitmap_validity}
use Rattle.bitmap.specs.Laws.{Lines}
use Rattle.bitmap.proofs.Pels.{most_small}
use Rattle.bitmap.proofs.Taken.{legal, fine, lines_are, lines_pass, sizes_of_lem}
use Rattle.printing.specs.declared.Times.TheVariants.{Once}
use Rattle.printing.specs.Printing.{printed_rows}
use Rattle.printing.proofs.Answers.{saved_whole}
use Rattle.pbm.specs.Header.{blank_of, within, passed, skip_from, skipped, is_digit, digits, says, begins, pbm_header_of}
use Rattle.pbm.specs.Read.{cleared, row_in, rows_in, page_in, bitmap_of_pbm}
use Rattle.pbm.specs.Written.{head_text, pbm_of}
use Rattle.pbm.specs.Laws.{PbmReadBack, CallsBack}
use Rattle.pbm.proofs.Answers.{taken_page}
use Rattle.pbm.proofs.Headers.{Places, all_said}
use Rattle.pbm.proofs.Pages.{length_row, length_rows}
use Rattle.std.specs.Prelude.{Ok}

-- ---- a number in decimal is read back

digit_yes : (n : ℕ) → n < 10 → is_digit (digit n) ≡ true
unfolding is_digit
digit_yes n h = rw (le-leb 48 (48 + n) (omega arith)) (le-leb (48 + n) 57 (omega arith))

digit_stays : (n : ℕ) → n < 10 → passed false (digit n) ≡ false
unfolding passed blank_of
digit_stays n h =
    rw (ne_eqb (48 + n) 32 (λ e. omega arith), le-leb 9 (48 + n) (omega arith), lt-leb (48 + n) 13 (omega arith))
    (ne_eqb (48 + n) 35 (λ e. omega arith))

decimal_digits : (n : ℕ) (xs : List ℕ) → digits (decimal n ++ xs) ≡ decimal n ++ digits xs
unfolding digits
decimal_digits = decimal_ind (λ n ds. (xs : List ℕ) → digits (ds ++ xs) ≡ ds ++ digits xs) one more
  where
    one : (n : ℕ) → n < 10 → (xs : List ℕ) → digits ((digit n ∷ []) ++ xs) ≡ (digit n ∷ []) ++ digits xs
    one n h xs = rw (digit_yes n h)

    more : (n : ℕ) → 10 ≤ n → ((xs : List ℕ) → digits (decimal (n / 10) ++ xs) ≡ decimal (n / 10) ++ digits xs)
        → (xs : List ℕ) → digits ((decimal (n / 10) ++ (digit (n % 10) ∷ [])) ++ xs) ≡ (decimal (n / 10) ++ (digit (n % 10) ∷ [])) ++ digits xs
    more n h f xs =
        rw (append_assoc (decimal (n / 10)) (digit (n % 10) ∷ []) xs, append_assoc (decimal (n / 10)) (digit (n % 10) ∷ []) (digits xs))
        (f (digit (n % 10) ∷ xs) ∙ ap (λ (ds : List ℕ). decimal (n / 10) ++ ds) (one (n % 10) (omega arith) xs))

decimal_stays : (n : ℕ) (xs : List ℕ) → skipped (decimal n ++ xs) ≡ decimal n ++ xs
unfolding skip_from
decimal_stays = decimal_ind (λ n ds. (xs : List ℕ) → skipped (ds ++ xs) ≡ ds ++ xs) (λ n h xs. rw (digit_stays n h) refl)
    (λ n h f xs. rw (append_assoc (decimal (n / 10)) (digit (n % 10) ∷ []) xs) (f (digit (n % 10) ∷ xs)))

-- ---- the header is read back

module _ (n : ℕ) (few : n ≤ 65536) (rest : List ℕ) where
  file : List ℕ
  file = 80 ∷ 52 ∷ 10 ∷ 49 ∷ 55 ∷ 50 ∷ 54 ∷ 32 ∷ (decimal n ++ (10 ∷ rest))

  file_is : head_text n ++ rest ≡ file
  unfolding head_text codes file
  file_is = append_assoc (codes "P4\n1726 " ++ decimal n) (codes "\n") rest ∙ append_assoc (codes "P4\n1726 ") (decimal n) (10 ∷ rest)

  number_digits : digits (decimal n ++ (10 ∷ rest)) ≡ decimal n
  unfolding digits is_digit
  number_digits = decimal_digits n (10 ∷ rest) ∙ append-nil (decimal n)

  places : Places file 3 1726 7 8 n (8 + length (decimal n))
  unfolding file begins passed blank_of skip_from within digits is_digit digits_value_from
  places = record {
    p4 = refl;
    width = refl;
    pels = refl;
    behind_width = refl;
    height = sym (decimal_stays n (10 ∷ rest));
    lines = rw (number_digits, decimal_value n) (omega arith);
    behind_height = rw number_digits refl;
  }

  pub header_back : pbm_header_of (head_text n ++ rest) ≡ says 1726 n rest
  unfolding file blank_of
  header_back =
      let front : List ℕ = 80 ∷ 52 ∷ 10 ∷ 49 ∷ 55 ∷ 50 ∷ 54 ∷ 32 ∷ decimal n in
      let i : 8 + length (decimal n) ≡ length front + 0 = omega arith in
      let j : 8 + length (decimal n) + 1 ≡ length front + 1 = omega arith in
      let g : get_or file (8 + length (decimal n)) 0 ≡ 10 = ap (λ (k : ℕ). get_or file k 0) i ∙ get_or-append-add front (10 ∷ rest) 0 0 in
      let d : drop (8 + length (decimal n) + 1) file ≡ rest = ap (λ (k : ℕ). drop k file) j ∙ drop-append-add front (10 ∷ rest) 1 in
      ap pbm_header_of file_is ∙ (all_said places (λ e. omega arith) (λ e. omega (arith, some_digits n)) (ap blank_of g)).0 ∙ ap (says 1726 n) d

-- ---- the rows are read back

-- whole rows, each once
once : (n : ℕ) (cs : List ℕ) → length cs ≡ 216 * n → flatten (printed_rows 1 n cs) ≡ cs
unfolding flatten printed_rows
once zero [] e = refl
once zero (c ∷ cs) e = absurd (omega arith)
once (suc n) cs e =
    rw (once n (drop 216 cs) (simp length-drop (omega arith))) (take-append-drop 216 cs)

row_back : (cs more : List ℕ) → 216 ≤ length cs → get_or cs 215 0 % 4 ≡ 0 → row_in (cs ++ more) ≡ take 216 cs
unfolding row_in
row_back cs more h e =
    let x : cleared (get_or cs 215 0) ≡ get_or cs 215 0 = omega arith in
    rw (take-append-le 215 cs more (omega arith), get_or-append cs more 0 215 (omega arith), x) (sym (take-suc cs 215 0 (omega arith)))

rows_back : (n : ℕ) (cs more : List ℕ) → length cs ≡ 216 * n → ((r : ℕ) → r < n → get_or cs (215 + 216 * r) 0 % 4 ≡ 0) → rows_in n (cs ++ more) ≡ cs
unfolding rows_in
rows_back zero [] more e f = refl
rows_back zero (c ∷ cs) more e f = absurd (omega arith)
rows_back (suc n) cs more e f =
    rw (row_back cs more (omega arith) (f 0 (omega arith)), drop-append-le 216 cs more (omega arith))
    (ap (λ (xs : List ℕ). take 216 cs ++ xs) (rows_back n (drop 216 cs) more (simp length-drop (omega arith)) next) ∙ take-append-drop 216 cs)
  where
    next : (r : ℕ) → r < n → get_or (drop 216 cs) (215 + 216 * r) 0 % 4 ≡ 0
    next r h = rw (get_or-drop 216 cs (215 + 216 * r) 0) (ap (λ (i : ℕ). get_or cs i 0 % 4) (omega arith) ∙ f (suc r) (omega arith))

-- ---- the bitmap is read back

page_back : (bm more : List ℕ) → Octets bm → bitmap_validity bm ≡ valid → page_in (lines_of bm) (drop 4 bm ++ more) ≡ bm
page_back bm more o e =
    let l : _ = legal bm e in
    let s : take 4 bm ≡ sizes (lines_of bm) = ext_get_or 0 (take 4 bm) (sizes (lines_of bm)) (length-take-le 4 bm (omega (arith, l.size)))
    (λ i h. let k : i < 4 = omega (arith, length-take-le 4 bm (omega (arith, l.size))) in get_or-take 4 bm i 0 k ∙ sizes_of_lem bm o l.width i k) in
    ap₂ (λ (xs ys : List ℕ). xs ++ ys) (sym s)
    (rows_back (lines_of bm) (drop 4 bm) more (simp length-drop (omega (arith, l.size))) (λ r h. rw (get_or-drop 4 bm (215 + 216 * r) 0) (ap (λ (i : ℕ). get_or bm i 0 % 4) (omega arith) ∙ l.trail r h)))
    ∙ take-append-drop 4 bm

pub pbm_back : PbmReadBack
unfolding pbm_of
pbm_back bm more o os e h =
    let l : _ = legal bm e in
    let z : length (drop 4 bm) ≡ 216 * lines_of bm = simp length-drop (omega (arith, l.size)) in
    let f : pbm_of Once bm ++ more ≡ head_text (lines_of bm) ++ (drop 4 bm ++ more) =
    rw (one-mul (lines_of bm), once (lines_of bm) (drop 4 bm) z) (append_assoc (head_text (lines_of bm)) (drop 4 bm) more) in
    let k : pbm_header_of (pbm_of Once bm ++ more) ≡ says 1726 (lines_of bm) (drop 4 bm ++ more) =
    ap pbm_header_of f ∙ header_back (lines_of bm) (omega (arith, l.lines.few, most_small)) (drop 4 bm ++ more) in
    sym (taken_page (pbm_of Once bm ++ more) o k refl (lines_pass l.lines) (simp length-append (omega arith)) (omega (arith, l.size)))
    ∙ ap₂ (λ (n : ℕ) (p : List ℕ). (Ok n, at_front p o)) (sym l.size) (page_back bm more os e)

-- the two calls, the second on all of the first one's output
pub calls_back : CallsBack
calls_back bm o p os e h l =
    ap (λ (w : Outcome ℕ ℕ). bitmap_of_pbm w.1 p) (sym (saved_whole bm (pbm_of Once bm) o e h))
    ∙ pbm_back bm (drop (length (pbm_of Once bm)) o) p os e l

-- ---- what is read is taken

last_cleared : (cs : List ℕ) → 216 ≤ length cs → get_or (row_in cs) 215 0 ≡ cleared (get_or cs 215 0)
unfolding row_in
last_cleared cs h =
    let i : 215 ≡ length (take 215 cs) + 0 = omega (arith, length-take-le 215 cs (omega arith)) in
    ap (λ (k : ℕ). get_or (row_in cs) k 0) i ∙ get_or-append-add (take 215 cs) (cleared (get_or cs 215 0) ∷ []) 0 0

rows_trail : (n r : ℕ) (cs : List ℕ) → r < n → 216 * n ≤ length cs → get_or (rows_in n cs) (215 + 216 * r) 0 % 4 ≡ 0
unfolding rows_in
rows_trail zero r cs h l = absurd (omega arith)
rows_trail (suc n) zero cs h l =
    let z : _ = length_row cs (omega arith) in
    rw (get_or-append (row_in cs) (rows_in n (drop 216 cs)) 0 215 (omega arith), last_cleared cs (omega arith)) (omega arith)
rows_trail (suc n) (suc r) cs h l =
    let i : 215 + 216 * suc r ≡ length (row_in cs) + (215 + 216 * r) = omega (arith, length_row cs (omega arith)) in
    rw (i, get_or-append-add (row_in cs) (rows_in n (drop 216 cs)) (215 + 216 * r) 0) (rows_trail n r (drop 216 cs) (omega arith) (simp length-drop (omega arith)))

pub page_taken : (n : ℕ) (rows : List ℕ) → lines_allowed n ≡ true → 216 * n ≤ length rows → bitmap_validity (page_in n rows) ≡ valid
page_taken n rows a l =
    let k : n % 256 + 256 * (n / 256) ≡ n = omega arith in
    fine (record {
      width = refl;
      lines = subst Lines (sym k) (lines_are n a);
      size = length-append (sizes n) (rows_in n rows) ∙ rw (length_rows n rows l) (omega arith);
      trail = λ r h. ap (λ (i : ℕ). get_or (page_in n rows) i 0 % 4) (at r) ∙ ap (λ (x : ℕ). x % 4) (get_or-append-add (sizes n) (rows_in n rows) (215 + 216 * r) 0) ∙ rows_trail n r rows (omega arith) l;
    })
  where
    at : (r : ℕ) → 219 + 216 * r ≡ 4 + (215 + 216 * r)
    at r = omega arith
