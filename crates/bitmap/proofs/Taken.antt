-- What a bitmap that is taken is: a legal one, and none else; and such a bitmap is the bitmap of its rows, and of its columns. Assumes nothing.
use mathlib.Core.Path.{◌≡◌, refl, sym, ap, subst, ◌∙◌}
use mathlib.Core.Bool.{Bool, true, false, cond, false≢true}
use mathlib.Core.List.{List, [], ◌∷◌}
use Prim.Native.Nat.{ℕ, zero, suc, ◌+◌, ◌-◌, ◌*◌, ◌/◌, ◌%◌, ◌^◌, ◌<◌, ◌≤◌}
use native.Mathlib.Decide.{dec_lt}
use native.Mathlib.Nat.{zero-add, div-one}
use native.Mathlib.Omega.{arith}
use lib.Dec.{ltb, eqb}
use lib.ListN.{length, get_or, get_or-eq_default}
use borrow.Author.Tests.{le-ltb, eq-eqb, ne_eqb, eqb-true, eqb-false, leb-true, le-leb}
use Rattle.octets.specs.Bits.{O, num, bit_num, bits_from}
use Rattle.basics.specs.Octets.{Octets}
use Rattle.octets.proofs.Fields.{num_at, length_bits}
use Rattle.octets.proofs.BitsEqual.{bit_in, bit_at_lem}
use Rattle.refusal.specs.declared.Reason.TheVariants.{BitmapSizeNotAllowed, BitmapContentNotAllowed}
use Rattle.state.specs.declared.Mixed.TheVariants.{WB, BW}
use Rattle.state.specs.declared.Solid.TheVariants.{WW, BB}
use Rattle.state.specs.declared.State.{State}
use Rattle.state.specs.declared.State.TheVariants.{Solid as solid, Mixed as mixed}
use Rattle.state.specs.Pels.{pels_of}
use Rattle.bitmap.specs.Form.{Row, top_of, bottom_of, sizes, lines_of, bitmap_of_rows, rows_of, columns_of_rows, bitmap_of, columns_of, column_at}
use Rattle.position.specs.Position.{position_after, top_bit, bottom_bit}
use Rattle.bitmap.specs.Validity.{most_lines, lines_within, lines_allowed, size_within, size_allowed, trailing0, content_allowed, validity_within, bitmap_validity}
use Rattle.bitmap.specs.Laws.{Lines, Legal, Full, TakenExactly, BitmapRows, BitmapColumns, BitmapTaken, ColumnBits}
use Rattle.bitmap.proofs.Pels.{pel_at, length_bitmap, pel_bitmap, Shows, shown}
use Rattle.bitmap.proofs.Columns.{pel_in, pel_top, pel_bottom, pel_pairs, length_rows, length_columns, full_rows, row_at, lines_bitmap, rows_columns}
use Rattle.std.specs.Prelude.{Result, Ok, Err}
use Rattle.refusal.specs.declared.Reason.{Reason}
use Rattle.refusal.specs.Reply.{valid}

-- ---- tests

pub if_both : (a b : Bool) → cond a b false ≡ true → (a ≡ true) × (b ≡ true)
if_both true b e = (refl, e)
if_both false b e = absurd (false≢true e)

if_not : (a b : Bool) → cond a false b ≡ true → (a ≡ false) × (b ≡ true)
if_not false b e = (refl, e)
if_not true b e = absurd (false≢true e)

pub lines_are : (n : ℕ) → lines_allowed n ≡ true → Lines n
unfolding lines_within
lines_are n e =
    let a : _ = if_not (eqb n 0) _ e in
    let b : _ = if_both (eqb (n % 2) 0) _ a.1 in
    record { some = positive (eqb-false n 0 a.0); even = eqb-true (n % 2) 0 b.0; few = leb-true n most_lines b.1 }
  where
    positive : (n ≡ 0 → ⊥) → 0 < n
    positive f = omega arith

pub lines_pass : {n : ℕ} → Lines n → lines_allowed n ≡ true
unfolding lines_within
lines_pass {n} l = rw (ne_eqb n 0 (λ e. omega (arith, l.some)), eq-eqb (n % 2) 0 l.even) (le-leb n most_lines l.few)

trail_is : (bm : List ℕ) (n : ℕ) → trailing0 bm n ≡ true → (r : ℕ) → r < n → get_or bm (219 + 216 * r) 0 % 4 ≡ 0
unfolding trailing0
trail_is bm zero e r h = absurd (omega arith)
trail_is bm (suc n) e r h = go (if_both (eqb (get_or bm (219 + 216 * n) 0 % 4) 0) _ e) (dec_lt r n) (λ t l. trail_is bm n t r l)
  where
    go : (eqb (get_or bm (219 + 216 * n) 0 % 4) 0 ≡ true) × (trailing0 bm n ≡ true) → Dec (r < n) → (trailing0 bm n ≡ true → r < n → get_or bm (219 + 216 * r) 0 % 4 ≡ 0) → get_or bm (219 + 216 * r) 0 % 4 ≡ 0
    go b (yes l) f = f b.1 l
    go b (no l) f = let z : r ≡ n = omega arith in rw z (eqb-true (get_or bm (219 + 216 * n) 0 % 4) 0 b.0)

trail_pass : (bm : List ℕ) (n : ℕ) → ((r : ℕ) → r < n → get_or bm (219 + 216 * r) 0 % 4 ≡ 0) → trailing0 bm n ≡ true
unfolding trailing0
trail_pass bm zero f = refl
trail_pass bm (suc n) f = rw (eq-eqb (get_or bm (219 + 216 * n) 0 % 4) 0 (f n (omega arith))) (trail_pass bm n (λ r h. f r (omega arith)))

size_is : (bm : List ℕ) → size_allowed bm ≡ true → (get_or bm 0 0 + 256 * get_or bm 1 0 ≡ 1726) × Lines (lines_of bm)
unfolding size_within
size_is bm e =
    let a : _ = if_not (ltb (length bm) 4) _ e in
    let b : _ = if_both (eqb (get_or bm 0 0 + 256 * get_or bm 1 0) 1726) _ a.1 in
    (eqb-true _ 1726 b.0, lines_are (lines_of bm) b.1)

content_is : (bm : List ℕ) → content_allowed bm ≡ true → (length bm ≡ 4 + 216 * lines_of bm) × (trailing0 bm (lines_of bm) ≡ true)
unfolding content_allowed
content_is bm e = let a : _ = if_both (eqb (length bm) (4 + 216 * lines_of bm)) _ e in (eqb-true (length bm) _ a.0, a.1)

abbrev is_fine : Result Unit Reason → Bool
is_fine (Ok _) = true
is_fine (Err reason) = false

pub legal : (bm : List ℕ) → bitmap_validity bm ≡ valid → Legal bm
unfolding validity_within
legal bm e = go (size_allowed bm) (content_allowed bm) refl refl (ap is_fine e)
  where
    go : (s c : Bool) → size_allowed bm ≡ s → content_allowed bm ≡ c → is_fine (cond s (cond c valid (Err BitmapContentNotAllowed)) (Err BitmapSizeNotAllowed)) ≡ true → Legal bm
    go true true f g e =
        let s : _ = size_is bm f in
        let c : _ = content_is bm g in
        record { width = s.0; lines = s.1; size = c.0; trail = trail_is bm (lines_of bm) c.1 }
    go true false f g e = absurd (false≢true e)
    go false c f g e = absurd (false≢true e)

pub fine : {bm : List ℕ} → Legal bm → bitmap_validity bm ≡ valid
unfolding validity_within size_within content_allowed
fine {bm} l =
    rw (
      le-ltb (length bm) 4 (omega (arith, l.size)),
      eq-eqb (get_or bm 0 0 + 256 * get_or bm 1 0) 1726 l.width,
      lines_pass l.lines,
      eq-eqb (length bm) (4 + 216 * lines_of bm) l.size,
      trail_pass bm (lines_of bm) l.trail,
    )

pub taken_exactly : TakenExactly
taken_exactly bm = (legal bm, fine)

-- ---- the rows of a legal bitmap

pub lines_rows : (bm : List ℕ) → length (rows_of bm) ≡ lines_of bm
unfolding rows_of
lines_rows bm = length_rows bm 0 (lines_of bm)

pub full_rows_of : (bm : List ℕ) → Full (rows_of bm)
unfolding rows_of
full_rows_of bm = full_rows bm 0 (lines_of bm)

row_of : (bm : List ℕ) (r : ℕ) → r < lines_of bm → get_or (rows_of bm) r [] ≡ bits_from bm (32 + 1728 * r) 1726
unfolding rows_of
row_of bm r h = row_at bm 0 (lines_of bm) r h ∙ ap (λ (i : ℕ). bits_from bm (32 + 1728 * i) 1726) (zero-add r)

pel_in_lem : (bm : List ℕ) (r x : ℕ) → r < lines_of bm → x < 1726 → bit_num bm (32 + (1728 * r + x)) ≡ num (pel_at (rows_of bm) r x)
pel_in_lem bm r x h l =
    let z : 32 + 1728 * r + x ≡ 32 + (1728 * r + x) = omega arith in
    rw (row_of bm r h, bit_at_lem bm (32 + 1728 * r) 1726 x l, z) (sym (num_at bm (32 + (1728 * r + x))))

-- ---- the columns of a bitmap that has all its octets

-- an even number of lines, of 863 columns each
pub length_columns_of : (bm : List ℕ) → lines_of bm % 2 ≡ 0 → length (columns_of bm) ≡ 863 * lines_of bm
unfolding columns_of
length_columns_of bm e = length_columns (lines_of bm / 2) (rows_of bm) (lines_rows bm ∙ omega arith) (full_rows_of bm) ∙ omega arith

both_pels : (s : State) → 2 * num (top_of s) + num (bottom_of s) ≡ pels_of s
both_pels (solid WW) = refl
both_pels (solid BB) = refl
both_pels (mixed WB) = refl
both_pels (mixed BW) = refl

-- a pel of row r is that of a column
pel_of : (bm : List ℕ) (r x : ℕ) → lines_of bm % 2 ≡ 0 → r < lines_of bm → x < 1726 →
    bit_num bm (32 + (1728 * r + x)) ≡ num (pel_in r (get_or (columns_of bm) (1726 * (r / 2) + x) (solid WW)))
unfolding columns_of
pel_of bm r x e h l =
    pel_in_lem bm r x h l
    ∙ ap num (ap (λ (rows : List Row). pel_at rows r x) (sym (rows_columns (lines_of bm / 2) (rows_of bm) (lines_rows bm ∙ omega arith) (full_rows_of bm)))
    ∙ pel_pairs (lines_of bm / 2) (columns_of_rows (rows_of bm)) r x (omega arith) l)

-- column i stands in the rows 2 * (i / 1726) and the one below
pub column_is : (bm : List ℕ) (i : ℕ) → lines_of bm % 2 ≡ 0 → i < 863 * lines_of bm →
    column_at bm (4 + 432 * (i / 1726)) (4 + 432 * (i / 1726) + 216) (i % 1726) ≡ pels_of (get_or (columns_of bm) i (solid WW))
unfolding column_at
column_is bm i e h =
    let r : ℕ = 2 * (i / 1726) in
    let t : 8 * (4 + 432 * (i / 1726)) + i % 1726 ≡ 32 + (1728 * (2 * (i / 1726)) + i % 1726) = omega arith in
    let b : 8 * (4 + 432 * (i / 1726) + 216) + i % 1726 ≡ 32 + (1728 * (2 * (i / 1726) + 1) + i % 1726) = omega arith in
    let u : 1726 * (2 * (i / 1726) / 2) + i % 1726 ≡ i = omega arith in
    let v : 1726 * ((2 * (i / 1726) + 1) / 2) + i % 1726 ≡ i = omega arith in
    let p : _ = pel_of bm (2 * (i / 1726)) (i % 1726) e (omega arith) (omega arith) in
    let q : _ = pel_of bm (2 * (i / 1726) + 1) (i % 1726) e (omega arith) (omega arith) in
    rw (t, b, p, q, u, v, pel_top (i / 1726) (2 * (i / 1726)) (get_or (columns_of bm) i (solid WW)) refl, pel_bottom (i / 1726) (2 * (i / 1726) + 1) (get_or (columns_of bm) i (solid WW)) refl)
    (both_pels (get_or (columns_of bm) i (solid WW)))

pub column_bits : ColumnBits
unfolding column_at position_after
column_bits bm i e h =
    let t : 8 * (4 + 432 * (i / 1726)) + i % 1726 ≡ top_bit (position_after i) = omega arith in
    let b : 8 * (4 + 432 * (i / 1726) + 216) + i % 1726 ≡ bottom_bit (position_after i) = omega arith in
    rw (t, b) at (column_is bm i e h)

low_bit : (y k : ℕ) → y % 4 ≡ 0 → 6 ≤ k → k < 8 → y / 2 ^ (7 - k) % 2 ≡ 0
low_bit y k e h l = go (dec_lt k 7)
  where
    go : Dec (k < 7) → y / 2 ^ (7 - k) % 2 ≡ 0
    go (yes w) = let z : 7 - k ≡ 1 = omega arith in rw z (omega arith)
    go (no w) = let z : 7 - k ≡ 0 = omega arith in rw z (omega arith)

pel_out : (bm : List ℕ) (r x : ℕ) → r < lines_of bm → 1726 ≤ x → x < 1728 → get_or bm (219 + 216 * r) 0 % 4 ≡ 0 → bit_num bm (32 + (1728 * r + x)) ≡ num (pel_at (rows_of bm) r x)
pel_out bm r x h l m e =
    bit_in bm (32 + (1728 * r + x)) (219 + 216 * r) (x - 1720) (omega arith) (omega arith) ∙ low_bit (get_or bm (219 + 216 * r) 0) (x - 1720) e (omega arith) (omega arith)
    ∙ sym (rw (row_of bm r h, get_or-eq_default (bits_from bm (32 + 1728 * r) 1726) O {n = x} (omega (arith, length_bits bm (32 + 1728 * r) 1726))) refl)

pub sizes_of_lem : (bm : List ℕ) → Octets bm → get_or bm 0 0 + 256 * get_or bm 1 0 ≡ 1726 → (i : ℕ) → i < 4 → get_or bm i 0 ≡ get_or (sizes (lines_of bm)) i 0
sizes_of_lem bm o w zero h = omega (arith, o 0, o 1)
sizes_of_lem bm o w (suc zero) h = omega (arith, o 0, o 1)
sizes_of_lem bm o w (suc (suc zero)) h = omega (arith, o 2, o 3)
sizes_of_lem bm o w (suc (suc (suc zero))) h = omega (arith, o 2, o 3)
sizes_of_lem bm o w (suc (suc (suc (suc i)))) h = absurd (omega arith)

pub shows_rows : (bm : List ℕ) → Octets bm → Legal bm → Shows (rows_of bm) bm
unfolding bit_num
shows_rows bm o l =
    record {
      size = l.size ∙ ap (λ (n : ℕ). 4 + 216 * n) (sym (lines_rows bm));
      octets = o;
      header = λ t h. ap (λ (x : ℕ). x / 2 ^ (7 - t % 8) % 2) (sizes_of_lem bm o l.width (t / 8) (omega arith)) ∙ ap (λ (n : ℕ). bit_num (sizes n) t) (sym (lines_rows bm));
      pels = λ r x h m. go r x (omega (arith, lines_rows bm)) m (dec_lt x 1726);
    }
  where
    go : (r x : ℕ) → r < lines_of bm → x < 1728 → Dec (x < 1726) → bit_num bm (32 + (1728 * r + x)) ≡ num (pel_at (rows_of bm) r x)
    go r x h m (yes w) = pel_in_lem bm r x h w
    go r x h m (no w) = pel_out bm r x h (omega arith) m (l.trail r h)

-- a bitmap that is taken is the bitmap of its rows
pub bitmap_rows : BitmapRows
bitmap_rows bm o e = let l : Legal bm = legal bm e in sym (shown (rows_of bm) (rw (lines_rows bm) l.lines.few) (shows_rows bm o l))

-- and of its columns
pub bitmap_columns : BitmapColumns
unfolding bitmap_of columns_of
bitmap_columns bm o e =
    let l : Legal bm = legal bm e in
    ap bitmap_of_rows (rows_columns (lines_of bm / 2) (rows_of bm) (lines_rows bm ∙ omega (arith, l.lines.even)) (full_rows_of bm)) ∙ bitmap_rows bm o e

-- ---- the bitmap of an allowed number of whole rows is taken

bitmap_width : (rows : List Row) → get_or (bitmap_of_rows rows) 0 0 + 256 * get_or (bitmap_of_rows rows) 1 0 ≡ 1726
unfolding bitmap_of_rows
bitmap_width rows = refl

behind : (rows : List Row) (r x : ℕ) → Full rows → 1726 ≤ x → pel_at rows r x ≡ O
behind [] r x f h = refl
behind (row ∷ rows) zero x f h = get_or-eq_default row O (omega (arith, f.0))
behind (row ∷ rows) (suc r) x f h = behind rows r x f.1 h

bitmap_trail : (rows : List Row) (r : ℕ) → Full rows → get_or (bitmap_of_rows rows) (219 + 216 * r) 0 % 4 ≡ 0
bitmap_trail rows r f =
    let a : get_or (bitmap_of_rows rows) (219 + 216 * r) 0 / 2 ^ (7 - 6) % 2 ≡ 0 =
    sym (bit_in (bitmap_of_rows rows) (32 + (1728 * r + 1726)) (219 + 216 * r) 6 (omega arith) (omega arith)) ∙ pel_bitmap rows r 1726 (omega arith) ∙ ap num (behind rows r 1726 f (omega arith)) in
    let b : get_or (bitmap_of_rows rows) (219 + 216 * r) 0 / 2 ^ (7 - 7) % 2 ≡ 0 =
    sym (bit_in (bitmap_of_rows rows) (32 + (1728 * r + 1727)) (219 + 216 * r) 7 (omega arith) (omega arith)) ∙ pel_bitmap rows r 1727 (omega arith) ∙ ap num (behind rows r 1727 f (omega arith)) in
    quarter (get_or (bitmap_of_rows rows) (219 + 216 * r) 0) a (sym (ap (λ (y : ℕ). y % 2) (div-one (get_or (bitmap_of_rows rows) (219 + 216 * r) 0))) ∙ b)
  where
    quarter : (y : ℕ) → y / 2 % 2 ≡ 0 → y % 2 ≡ 0 → y % 4 ≡ 0
    quarter y h l = omega arith

pub bitmap_taken : BitmapTaken
bitmap_taken rows f l = fine (record {
  width = bitmap_width rows;
  lines = subst Lines (sym (lines_bitmap rows)) l;
  size = length_bitmap rows ∙ ap (λ (n : ℕ). 4 + 216 * n) (sym (lines_bitmap rows));
  trail = λ r h. bitmap_trail rows r f;
})
