-- Laws of writing the words of a bitmap: the words of a row are those of its first run and of the pels behind it, the words of rows those of the first row and of the rows below. Assumes nothing.
use mathlib.Core.Bool.{true}
use mathlib.Core.Path.{◌≡◌, refl, sym, ap, ap₂, ◌∙◌}
use mathlib.Core.List.{List, [], ◌∷◌, ◌++◌, append_assoc, append-nil}
use Prim.Native.Nat.{ℕ, zero, suc, ◌+◌, ◌-◌, ◌*◌, ◌<◌, ◌≤◌, min}
use native.Mathlib.Decide.{dec_lt}
use native.Mathlib.Nat.{add-zero, zero-add, sub-zero, zero-min, min-zero, suc-min-suc}
use native.Mathlib.Numerals.{add-one}
use native.Mathlib.Omega.{arith}
use borrow.Author.Tests.{lt-ltb, le-ltb, eq-eqb, ne_eqb}
use lib.IntN.{ℤ, pos}
use lib.ListN.{length, take, drop, set, replicate, length-append}
use Rattle.octets.specs.Bits.{Bit, O, I, num, bit_num, bit_at, bits_from}
use Rattle.octets.proofs.Fields.{num_at, length_bits, bits_split}
use Rattle.basics.specs.Placed.{at_front, placed}
use Rattle.basics.proofs.Placed.{placed_front, placed_one}
use Rattle.basics.specs.declared.Cursor.{Cursor}
use Rattle.basics.proofs.Writing.{writing_all, writing_on, writing_end, Left}
use Rattle.refusal.specs.Reply.{Reply, gives, refuses, valid}
use Rattle.bitmap.specs.Form.{Row, lines_of, row_at, rows_from, rows_of, column_at}
use Rattle.bitmap.specs.Validity.{bitmap_validity}
use Rattle.bitmap_find.specs.Found.{FirstChange}
use Rattle.words.specs.Words.{word_of, runs_of, or_one, line_words, page_words, unlike}
use Rattle.words.specs.Calls.{words_of_bitmap}
use Rattle.words.specs.Lines.{ended_line, lines_words, some_lines, words_of_lines}
use Rattle.words_write.specs.Written.{run_word, line_end, words_from}
use Rattle.words.proofs.Answers.{short_words, whole_words, short_lines, whole_lines}
use Rattle.words.proofs.Parts.{page_of_lines}
use Rattle.words.proofs.Rows.{runs_on, runs_end_black, runs_end_white, fewer_words}

-- ---- the word of a run, and the end of a line

pub run_black : {s : ℕ} (x y : ℕ) → s ≡ 3 → run_word s x y ≡ word_of I (y - x) ∷ []
unfolding run_word
run_black {s} x y e = rw (eq-eqb s 3 e)

pub run_white : {s : ℕ} (x y : ℕ) → (s ≡ 3 → ⊥) → y < 1726 → run_word s x y ≡ word_of O (y - x) ∷ []
unfolding run_word
run_white {s} x y e h = rw (ne_eqb s 3 e, lt-ltb y 1726 h)

pub run_none : {s : ℕ} (x y : ℕ) → (s ≡ 3 → ⊥) → 1726 ≤ y → run_word s x y ≡ []
unfolding run_word
run_none {s} x y e h = rw (ne_eqb s 3 e, le-ltb y 1726 h)

pub end_white : {n : ℕ} → n ≡ 0 → line_end n ≡ pos 1 ∷ pos 0 ∷ []
unfolding line_end
end_white {n} e = rw (eq-eqb n 0 e)

pub end_words : {n : ℕ} → (n ≡ 0 → ⊥) → line_end n ≡ pos 0 ∷ []
unfolding line_end
end_words {n} e = rw (ne_eqb n 0 e)

-- ---- the first run of some pels

bits_same : (bm : List ℕ) (i n : ℕ) (c : Bit) → ((k : ℕ) → k < n → bit_at bm (i + k) ≡ c) → bits_from bm i n ≡ replicate n c
unfolding bits_from
bits_same bm i zero c e = refl
bits_same bm i (suc n) c e =
    ap₂ (λ (b : Bit) (bs : Row). b ∷ bs) (ap (bit_at bm) (sym (add-zero i)) ∙ e zero (omega arith))
    (bits_same bm (suc i) n c (λ k h. ap (bit_at bm) (omega arith) ∙ e (suc k) (omega arith)))

-- pels that do not make a run of colour c longer
abbrev Ends : Bit → Row → Type 0
Ends c [] = Unit {0}
Ends c (p ∷ ps) = unlike c p ≡ true

ends_bits : (bm : List ℕ) (i n : ℕ) (c : Bit) → (0 < n → unlike c (bit_at bm i) ≡ true) → Ends c (bits_from bm i n)
unfolding bits_from
ends_bits bm i zero c h = tt
ends_bits bm i (suc n) c h = h (omega arith)

run_words : (c : Bit) (x y : ℕ) (rest : Row) → x < y → y + length rest ≡ 1726 → Ends c rest → runs_of (replicate (y - x) c ++ rest) ≡ run_word (3 * num c) x y ++ runs_of rest
unfolding run_word runs_of
run_words O x y [] h l e = rw (le-ltb y 1726 (omega arith), append-nil (replicate (y - x) O)) (runs_end_white (y - x))
run_words I x y [] h l e = let k : y - x ≡ suc (y - x - 1) = omega arith in rw (append-nil (replicate (y - x) I), k) (runs_end_black (y - x - 1))
run_words O x y (p ∷ ps) h l e = let k : y - x ≡ suc (y - x - 1) = omega arith in rw (lt-ltb y 1726 (omega arith), k) (runs_on O (y - x - 1) p ps e)
run_words I x y (p ∷ ps) h l e = let k : y - x ≡ suc (y - x - 1) = omega arith in rw k (runs_on I (y - x - 1) p ps e)

-- ---- the words of a row

-- pel x of the row that begins at octet base, the pels from it on, and their words up to the line's end, which goes by the words of the row
abbrev pub row_pel : List ℕ → ℕ → ℕ → Bit
row_pel bm base x = bit_at bm (8 * base + x)

abbrev pub row_pels : List ℕ → ℕ → ℕ → Row
row_pels bm base x = bits_from bm (8 * base + x) (1726 - x)

abbrev pub row_words : List ℕ → ℕ → ℕ → ℕ → List ℤ
row_words bm base words x = runs_of (row_pels bm base x) ++ line_end words

pub first_pel : (bm : List ℕ) (base : ℕ) {b : ℕ} → b ≡ bit_num bm (8 * base) → 3 * b ≡ 3 * num (row_pel bm base 0)
first_pel bm base e = rw (add-zero (8 * base), num_at bm (8 * base), e) refl

-- a row over itself
column : (bm : List ℕ) (base k : ℕ) → column_at bm base base k ≡ 3 * num (row_pel bm base k)
unfolding column_at
column bm base k = omega (arith, num_at bm (8 * base + k))

colour_same : (c d : Bit) → 3 * num c ≡ 3 * num d → c ≡ d
colour_same O O e = refl
colour_same O I e = absurd (omega arith)
colour_same I O e = absurd (omega arith)
colour_same I I e = refl

colour_other : (c d : Bit) → (3 * num d ≡ 3 * num c → ⊥) → (unlike c d ≡ true) × (3 - 3 * num c ≡ 3 * num d)
colour_other O O h = absurd (h refl)
colour_other O I h = (refl, refl)
colour_other I O h = (refl, refl)
colour_other I I h = absurd (h refl)

-- the run that `first_change` finds from pel x up to pel y
module _ {bm : List ℕ} {base s x y : ℕ} (h : x < 1726) (e : s ≡ 3 * num (row_pel bm base x)) (a : FirstChange bm base base s x 1726 y) where
  stops : y < 1726 → 3 * num (row_pel bm base y) ≡ 3 * num (row_pel bm base x) → ⊥
  stops l q = a.stop l (column bm base y ∙ q ∙ sym e)

  pub run_further : x < y
  run_further = go (dec_lt x y)
    where
      go : Dec (x < y) → x < y
      go (yes l) = l
      go (no l) = let q : y ≡ x = omega arith in absurd (stops (omega arith) (rw q refl))

  pub run_turned : y < 1726 → 3 - s ≡ 3 * num (row_pel bm base y)
  run_turned l = rw e (colour_other (row_pel bm base x) (row_pel bm base y) (stops l)).1

  run_pels : row_pels bm base x ≡ replicate (y - x) (row_pel bm base x) ++ row_pels bm base y
  run_pels =
      let p : 1726 - x ≡ y - x + (1726 - y) = omega arith in
      let q : 8 * base + x + (y - x) ≡ 8 * base + y = omega arith in
      ap (bits_from bm (8 * base + x)) p ∙ bits_split bm (8 * base + x) (y - x) (1726 - y)
      ∙ ap₂ (λ (l m : Row). l ++ m) (bits_same bm (8 * base + x) (y - x) (row_pel bm base x) seen) (ap (λ (i : ℕ). bits_from bm i (1726 - y)) q)
    where
      seen : (k : ℕ) → k < y - x → bit_at bm (8 * base + x + k) ≡ row_pel bm base x
      seen k l =
          let q : 8 * base + x + k ≡ 8 * base + (x + k) = omega arith in
          rw q (colour_same (row_pel bm base (x + k)) (row_pel bm base x) (sym (column bm base (x + k)) ∙ a.same (x + k) (omega arith) (omega arith) ∙ e))

  run_runs : runs_of (row_pels bm base x) ≡ run_word s x y ++ runs_of (row_pels bm base y)
  run_runs =
      let n = length_bits bm (8 * base + y) (1726 - y) in
      let u = ends_bits bm (8 * base + y) (1726 - y) (row_pel bm base x) (λ l. (colour_other (row_pel bm base x) (row_pel bm base y) (stops (omega arith))).0) in
      rw (run_pels, e) (run_words (row_pel bm base x) x y (row_pels bm base y) run_further (omega arith) u)

  pub run_first : (words : ℕ) → row_words bm base words x ≡ run_word s x y ++ row_words bm base words y
  run_first words = rw run_runs (append_assoc (run_word s x y) (runs_of (row_pels bm base y)) (line_end words))

none : (bm : List ℕ) (base x : ℕ) → 1726 ≤ x → runs_of (row_pels bm base x) ≡ []
unfolding bits_from runs_of
none bm base x h = let z : 1726 - x ≡ 0 = omega arith in rw z refl

-- the line's words, and its end behind all its runs
ended : (ws : List ℤ) → or_one ws ++ (pos 0 ∷ []) ≡ ws ++ line_end (length ws)
unfolding line_end
ended [] = refl
ended (w ∷ ws) = rw (ne_eqb (suc (length ws)) 0 (λ e. omega arith)) refl

pub line_all : (bm : List ℕ) (r : ℕ) → ended_line (row_at bm r) ≡ row_words bm (4 + 216 * r) (length (runs_of (row_at bm r))) 0
line_all bm r =
    let e : 8 * (4 + 216 * r) + 0 ≡ 32 + 1728 * r = omega arith in
    rw e (ended (runs_of (row_at bm r)))

pub line_ended : (bm : List ℕ) (base : ℕ) (row : Row) {x : ℕ} {o p : Cursor ℤ} → 1726 ≤ x →
    Left (ended_line row) o (row_words bm base (length (runs_of row)) x) p → Left (ended_line row) o (line_end (p.at - o.at)) p
line_ended bm base row {x} {o} {p} h w =
    let v : Left (ended_line row) o (line_end (length (runs_of row))) p = rw (none bm base x h) at w in
    let l = ap length (ended (runs_of row)) ∙ length-append (runs_of row) (line_end (length (runs_of row))) in
    let c : _ = v.writing.count in
    let n : length (runs_of row) ≡ p.at - o.at = omega arith in
    rw n at v

-- a row has at most a word a pel, and its 0
pub line_few : (bm : List ℕ) (r : ℕ) → length (ended_line (row_at bm r)) ≤ 1727
line_few bm r =
    let n = length_bits bm (32 + 1728 * r) 1726 in
    omega (arith, length-append (line_words (row_at bm r)) (pos 0 ∷ []), fewer_words (row_at bm r) (omega arith))

-- ---- the words of rows

pub lines_first : (bm : List ℕ) {r end : ℕ} → r < end → words_from bm r end ≡ ended_line (row_at bm r) ++ words_from bm (r + 1) end
unfolding rows_from lines_words
lines_first bm {r} {end} h = let e : end - r ≡ suc (end - (r + 1)) = omega arith in rw (e, add-one r) refl

pub lines_first_length : (bm : List ℕ) {r end : ℕ} → r < end → length (words_from bm r end) ≡ length (ended_line (row_at bm r)) + length (words_from bm (r + 1) end)
lines_first_length bm {r} {end} h = ap length (lines_first bm h) ∙ length-append (ended_line (row_at bm r)) (words_from bm (r + 1) end)

pub lines_end : (bm : List ℕ) {r end : ℕ} → end ≤ r → words_from bm r end ≡ []
unfolding rows_from lines_words
lines_end bm {r} {end} h = let e : end - r ≡ 0 = omega arith in rw e refl

-- all lines of a page, and its 0
pub page_all : (bm : List ℕ) {lines : ℕ} → lines ≡ lines_of bm → page_words (rows_of bm) ≡ words_from bm 0 lines ++ (pos 0 ∷ [])
unfolding rows_of
page_all bm {lines} e = let z : lines_of bm ≡ lines - 0 = omega arith in page_of_lines (rows_of bm) ∙ ap (λ (n : ℕ). lines_words (rows_from bm 0 n) ++ (pos 0 ∷ [])) z

-- some lines of a page
rows_drop : (bm : List ℕ) (k r n : ℕ) → drop k (rows_from bm r n) ≡ rows_from bm (r + k) (n - k)
unfolding rows_from
rows_drop bm zero r n = rw (add-zero r, sub-zero n) refl
rows_drop bm (suc k) r zero = let z : zero - suc k ≡ 0 = omega arith in rw z refl
rows_drop bm (suc k) r (suc n) = let z : suc n - suc k ≡ n - k = omega arith in
    let w : suc r + k ≡ r + suc k = omega arith in
    rows_drop bm k (suc r) n ∙ rw (z, w) refl

rows_take : (bm : List ℕ) (k r n : ℕ) → take k (rows_from bm r n) ≡ rows_from bm r (min k n)
unfolding rows_from
rows_take bm zero r n = rw (zero-min n) refl
rows_take bm (suc k) r zero = rw (min-zero (suc k)) refl
rows_take bm (suc k) r (suc n) = rw (suc-min-suc k n) (ap (λ (rows : List Row). row_at bm r ∷ rows) (rows_take bm k (suc r) n))

module _ (bm : List ℕ) (from n : ℕ) {lines first more : ℕ} (e : lines ≡ lines_of bm) (f : first ≡ min from lines) (g : more ≡ min n (lines - first)) where
  some_lines_lem : some_lines bm from n ≡ words_from bm first (first + more)
  unfolding rows_of rows_from
  some_lines_lem = ap lines_words (ap (take n) (rows_drop bm from 0 (lines_of bm)) ∙ rows_take bm n (0 + from) (lines_of bm - from) ∙ go (dec_lt from lines))
    where
      go : Dec (from < lines) → rows_from bm (0 + from) (min n (lines_of bm - from)) ≡ rows_from bm first (first + more - first)
      go (yes h) =
          let p : 0 + from ≡ first = omega arith in
          let q : min n (lines_of bm - from) ≡ first + more - first = omega arith in
          rw (p, q) refl
      go (no h) =
          let p : min n (lines_of bm - from) ≡ 0 = omega arith in
          let q : first + more - first ≡ 0 = omega arith in
          rw (p, q) refl

  module _ {words : ℕ} (v : bitmap_validity bm ≡ valid) (w : words ≡ length (words_from bm first (first + more))) where
    pub short_some : (o : List ℤ) → length o < words → (refuses 16 0, o) ≡ words_of_lines bm from n o
    short_some o h = short_lines bm from n o v (rw some_lines_lem (omega arith))

    pub whole_some : (o : List ℤ) {q : List ℤ} → words ≤ length o → q ≡ placed 0 (words_from bm first (first + more)) o → (gives words, q) ≡ words_of_lines bm from n o
    whole_some o h r =
        ap₂ (λ (d : Reply ℕ) (x : List ℤ). (d, x)) (ap gives (w ∙ ap length (sym some_lines_lem))) (r ∙ placed_front _ o ∙ ap (λ (ws : List ℤ). at_front ws o) (sym some_lines_lem))
        ∙ whole_lines bm from n o v (rw some_lines_lem (omega arith))

-- all lines, and the page's 0 set behind them
module _ (bm : List ℕ) {lines words : ℕ} (e : lines ≡ lines_of bm) (v : bitmap_validity bm ≡ valid) (w : words ≡ length (words_from bm 0 lines)) where
  size_all : length (page_words (rows_of bm)) ≡ words + 1
  size_all = ap length (page_all bm e) ∙ length-append (words_from bm 0 lines) (pos 0 ∷ []) ∙ ap (λ (k : ℕ). k + 1) (sym w)

  pub short_all : (o : List ℤ) → length o ≤ words → (refuses 16 0, o) ≡ words_of_bitmap bm o
  short_all o h = short_words bm o v (omega (arith, size_all))

  pub whole_all : (o : List ℤ) {q : List ℤ} → words < length o → q ≡ placed 0 (words_from bm 0 lines) o → (gives (words + 1), set q words (pos 0)) ≡ words_of_bitmap bm o
  whole_all o {q} h r =
      let a = writing_on (writing_all {at = 0} {o = o} (omega (arith, size_all)) (page_all bm e)) (words_from bm 0 lines) (pos 0 ∷ []) {q = q} {j = words} refl (w ∙ sym (zero-add _)) r in
      let b = (writing_end a refl (placed_one words (pos 0) q (omega (arith, a.size)))).1 in
      ap₂ (λ (d : Reply ℕ) (x : List ℤ). (d, x)) (ap gives (sym size_all)) (b ∙ placed_front _ o) ∙ whole_words bm o v (omega (arith, size_all))
