-- A bitmap is known by its sizes and its pels: octets with those sizes and the pels of some rows are the bitmap of the rows, and black
-- bits set in it are black pels in the rows. Assumes nothing.
use mathlib.Core.Path.{◌≡◌, refl, sym, ap, subst, ◌∙◌}
use mathlib.Core.List.{List, [], ◌∷◌, ◌++◌}
use Prim.Native.Nat.{ℕ, zero, suc, ◌+◌, ◌-◌, ◌*◌, ◌/◌, ◌%◌, ◌<◌, ◌≤◌}
use native.Mathlib.Decide.{dec_lt}
use native.Mathlib.Omega.{arith}
use lib.Dec.{lit<, lit≤}
use lib.ListN.{length, get_or, length-append, get_or-append}
use lib.Seq.{get_or-append-add}
use Rattle.octets.specs.Bits.{Bit, O, I, num, bit_num, packed}
use Rattle.basics.specs.Octets.{Octets}
use Rattle.octets.proofs.Packed.{length_packed, octet_packed, bit_packed}
use Rattle.octets.proofs.BitsEqual.{octets_same, bit_left, bit_right, bit_past}
use Rattle.bitmap.specs.Form.{Row, sizes, line_octets, bitmap_of_rows}
use Rattle.bitmap.specs.Validity.{most_lines}
use Rattle.bitmap.specs.Laid.{Blacked}

-- two octets hold the number of lines
pub most_small : most_lines < 65536
unfolding most_lines
most_small = lit< tt

-- and a page of one row pair may be
pub most_some : 2 ≤ most_lines
unfolding most_lines
most_some = lit≤ tt

-- pel x of row r; white where none is given
abbrev pub pel_at : List Row → ℕ → ℕ → Bit
pel_at rows r x = get_or (get_or rows r []) x O

-- ---- the bits of a bitmap

length_lines : (rows : List Row) → length (line_octets rows) ≡ 216 * length rows
unfolding line_octets
length_lines [] = refl
length_lines (row ∷ rows) = length-append (packed 216 row) (line_octets rows) ∙ omega (arith, length_packed 216 row, length_lines rows)

pub length_bitmap : (rows : List Row) → length (bitmap_of_rows rows) ≡ 4 + 216 * length rows
unfolding bitmap_of_rows
length_bitmap rows = omega (arith, length_lines rows)

pel_line : (rows : List Row) (r x : ℕ) → x < 1728 → bit_num (line_octets rows) (1728 * r + x) ≡ num (pel_at rows r x)
unfolding line_octets
pel_line [] r x h = bit_past [] (1728 * r + x) (omega arith)
pel_line (row ∷ rows) zero x h =
    let z : 1728 * zero + x ≡ x = omega arith in
    rw z (bit_left (packed 216 row) (line_octets rows) x (omega (arith, length_packed 216 row)) ∙ bit_packed 216 x row h)
pel_line (row ∷ rows) (suc r) x h =
    let z : 1728 * suc r + x ≡ 1728 + (1728 * r + x) = omega arith in
    rw z (bit_right (packed 216 row) (line_octets rows) 1728 (1728 * r + x) (omega (arith, length_packed 216 row)) ∙ pel_line rows r x h)

pub pel_bitmap : (rows : List Row) (r x : ℕ) → x < 1728 → bit_num (bitmap_of_rows rows) (32 + (1728 * r + x)) ≡ num (pel_at rows r x)
unfolding bitmap_of_rows
pel_bitmap rows r x h = bit_right (sizes (length rows)) (line_octets rows) 32 (1728 * r + x) refl ∙ pel_line rows r x h

sizes_bitmap : (rows : List Row) (t : ℕ) → t < 32 → bit_num (bitmap_of_rows rows) t ≡ bit_num (sizes (length rows)) t
unfolding bitmap_of_rows
sizes_bitmap rows t h = bit_left (sizes (length rows)) (line_octets rows) t h

octets_lines : (rows : List Row) → Octets (line_octets rows)
unfolding line_octets
octets_lines [] i = lit< tt
octets_lines (row ∷ rows) i = go (dec_lt i 216) (octets_lines rows (i - 216))
  where
    go : Dec (i < 216) → get_or (line_octets rows) (i - 216) 0 < 256 → get_or (packed 216 row ++ line_octets rows) i 0 < 256
    go (yes h) l = rw (get_or-append (packed 216 row) (line_octets rows) 0 i (omega (arith, length_packed 216 row))) (octet_packed 216 row i)
    go (no h) l =
        let z : i ≡ length (packed 216 row) + (i - 216) = omega (arith, length_packed 216 row) in
        subst (λ (k : ℕ). get_or (packed 216 row ++ line_octets rows) k 0 < 256) (sym z) (rw (get_or-append-add (packed 216 row) (line_octets rows) (i - 216) 0) l)

pub octets_bitmap : (rows : List Row) → length rows ≤ most_lines → Octets (bitmap_of_rows rows)
unfolding bitmap_of_rows
octets_bitmap rows h zero = lit< tt
octets_bitmap rows h (suc zero) = lit< tt
octets_bitmap rows h (suc (suc zero)) = omega arith
octets_bitmap rows h (suc (suc (suc zero))) = omega (arith, most_small)
octets_bitmap rows h (suc (suc (suc (suc i)))) = octets_lines rows i

-- ---- octets that show some rows

pub record Shows (rows : List Row) (o : List ℕ) : Type 0 where
  pub size : length o ≡ 4 + 216 * length rows
  pub octets : Octets o
  pub header : (t : ℕ) → t < 32 → bit_num o t ≡ bit_num (sizes (length rows)) t
  pub pels : (r x : ℕ) → r < length rows → x < 1728 → bit_num o (32 + (1728 * r + x)) ≡ num (pel_at rows r x)

pub shows_bitmap : (rows : List Row) {o : List ℕ} → length rows ≤ most_lines → o ≡ bitmap_of_rows rows → Shows rows o
shows_bitmap rows h e =
    subst (Shows rows) (sym e) (record { size = length_bitmap rows; octets = octets_bitmap rows h; header = sizes_bitmap rows; pels = λ r x l m. pel_bitmap rows r x m })

pub shown : (rows : List Row) {o : List ℕ} → length rows ≤ most_lines → Shows rows o → o ≡ bitmap_of_rows rows
shown rows {o} few s = octets_same o (bitmap_of_rows rows) (s.size ∙ sym (length_bitmap rows)) s.octets (octets_bitmap rows few) (λ t h. go t h (dec_lt t 32))
  where
    go : (t : ℕ) → t < 8 * length o → Dec (t < 32) → bit_num o t ≡ bit_num (bitmap_of_rows rows) t
    go t h (yes l) = s.header t l ∙ sym (sizes_bitmap rows t l)
    go t h (no l) =
        let z : 32 + (1728 * ((t - 32) / 1728) + (t - 32) % 1728) ≡ t = omega arith in
        let b : (t - 32) / 1728 < length rows = omega (arith, s.size) in
        let e : _ = s.pels ((t - 32) / 1728) ((t - 32) % 1728) b (omega arith) ∙ sym (pel_bitmap rows ((t - 32) / 1728) ((t - 32) % 1728) (omega arith)) in
        rw z at e

-- other rows with the same pels
pub shows_as : {rows rows' : List Row} {o : List ℕ} → length rows' ≡ length rows → ((r x : ℕ) → r < length rows → x < 1728 → pel_at rows' r x ≡ pel_at rows r x) → Shows rows o → Shows rows' o
shows_as {rows} {rows'} {o} n e s =
    record {
      size = s.size ∙ ap (λ (m : ℕ). 4 + 216 * m) (sym n);
      octets = s.octets;
      header = λ t h. s.header t h ∙ ap (λ (m : ℕ). bit_num (sizes m) t) (sym n);
      pels = λ r x h l. s.pels r x (omega arith) l ∙ ap num (sym (e r x (omega arith) l));
    }

-- ---- n pels from pel x of row r on are black now

pub record Inked (r x n : ℕ) (rows rows' : List Row) : Type 0 where
  pub lines : length rows' ≡ length rows
  pub black : (y : ℕ) → x ≤ y → y < x + n → pel_at rows' r y ≡ I
  pub kept : (q y : ℕ) → (q ≡ r → x ≤ y → y < x + n → ⊥) → y < 1728 → pel_at rows' q y ≡ pel_at rows q y

pub shows_inked : {r x n a b : ℕ} {rows rows' : List Row} {o p : List ℕ} → Shows rows o → x + n ≤ 1728 → a ≡ 32 + (1728 * r + x) → b ≡ a + n →
    Blacked a b o p → Inked r x n rows rows' → Shows rows' p
shows_inked {r} {x} {n} {a} {b} {rows} {rows'} {o} {p} s fits e f k i =
    record {
      size = k.size ∙ s.size ∙ ap (λ (m : ℕ). 4 + 216 * m) (sym i.lines);
      octets = k.octets s.octets;
      header = λ t h. k.kept t (λ l m. omega arith) ∙ s.header t h ∙ ap (λ (m : ℕ). bit_num (sizes m) t) (sym i.lines);
      pels = λ q y h l. go q y (omega (arith, i.lines)) l (dec_lt (1728 * q + y) (1728 * r + x)) (dec_lt (1728 * q + y) (1728 * r + x + n));
    }
  where
    old : (q y : ℕ) → q < length rows → y < 1728 → (q ≡ r → x ≤ y → y < x + n → ⊥) → (a ≤ 32 + (1728 * q + y) → 32 + (1728 * q + y) < b → ⊥) → bit_num p (32 + (1728 * q + y)) ≡ num (pel_at rows' q y)
    old q y h l none out = k.kept _ out ∙ s.pels q y h l ∙ ap num (sym (i.kept q y none l))

    go : (q y : ℕ) → q < length rows → y < 1728 → Dec (1728 * q + y < 1728 * r + x) → Dec (1728 * q + y < 1728 * r + x + n) → bit_num p (32 + (1728 * q + y)) ≡ num (pel_at rows' q y)
    go q y h l (yes u) d = old q y h l (λ z v w. before z v u) (λ v w. omega arith)
      where
        before : q ≡ r → x ≤ y → 1728 * q + y < 1728 * r + x → ⊥
        before z v w = omega arith
    go q y h l (no u) (no w) = old q y h l (λ z v m. after z m w) (λ v m. omega arith)
      where
        after : q ≡ r → y < x + n → (1728 * q + y < 1728 * r + x + n → ⊥) → ⊥
        after z m w = w (omega arith)
    go q y h l (no u) (yes w) =
        let z : q ≡ r = omega arith in
        k.black _ (omega arith) (omega arith) ∙ ap num (sym (ap (λ (m : ℕ). pel_at rows' m y) z ∙ i.black y (omega arith) (omega arith)))
