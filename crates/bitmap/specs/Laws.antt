-- Which bitmaps are taken, said without tests; that a bitmap, its rows and its columns say the same page; and where a column's pels stand. Proved in
-- proofs/Taken, and `RowsBitmap` and `ColumnsBitmap` in proofs/Columns. Assumes nothing.
use Rattle.std.specs.Prelude.{◌≡◌, ◌↔◌, List, [], ◌∷◌, ℕ, ◌+◌, ◌*◌, ◌/◌, ◌%◌, ◌<◌, ◌≤◌, length, get_or}
use Rattle.basics.specs.Octets.{Octets}
use Rattle.octets.specs.Bits.{bit_num}
use Rattle.position.specs.Position.{pels_per_line, columns_per_line, octets_per_line, octets_in_front, position_after, top_bit, bottom_bit}
use Rattle.state.specs.declared.Solid.TheVariants.{WW}
use Rattle.state.specs.declared.State.{State}
use Rattle.state.specs.declared.State.TheVariants.{Solid as solid}
use Rattle.state.specs.Pels.{pels_of}
use Rattle.bitmap.specs.Form.{Row, lines_of, bitmap_of_rows, rows_of, bitmap_of, columns_of}
use Rattle.bitmap.specs.Validity.{most_lines, first_line_end, bitmap_validity}
use Rattle.refusal.specs.Reply.{valid}

-- an allowed number of lines
pub record Lines (n : ℕ) : Type 0 where
  pub some : 0 < n
  pub even : n % 2 ≡ 0
  pub few : n ≤ most_lines

-- a legal bitmap
pub record Legal (bm : List ℕ) : Type 0 where
  pub width : get_or bm 0 0 + 256 * get_or bm 1 0 ≡ pels_per_line
  pub lines : Lines (lines_of bm)
  pub size : length bm ≡ octets_in_front + octets_per_line * lines_of bm
  pub trail : (r : ℕ) → r < lines_of bm → get_or bm (first_line_end + octets_per_line * r) 0 % 4 ≡ 0

-- A bitmap is taken exactly when it is legal.
abbrev pub TakenExactly : Type 0
TakenExactly = (bm : List ℕ) → (bitmap_validity bm ≡ valid) ↔ Legal bm

-- each row has all its pels
abbrev pub Full : List Row → Type 0
Full [] = Unit {0}
Full (row ∷ rows) = (length row ≡ pels_per_line) × Full rows

-- The bitmap of an allowed number of whole rows is taken.
abbrev pub BitmapTaken : Type 0
BitmapTaken = (rows : List Row) → Full rows → Lines (length rows) → bitmap_validity (bitmap_of_rows rows) ≡ valid

-- The rows of the bitmap of whole rows are those rows.
abbrev pub RowsBitmap : Type 0
RowsBitmap = (rows : List Row) → Full rows → rows_of (bitmap_of_rows rows) ≡ rows

-- A bitmap that is taken is the bitmap of its rows.
abbrev pub BitmapRows : Type 0
BitmapRows = (bm : List ℕ) → Octets bm → bitmap_validity bm ≡ valid → bitmap_of_rows (rows_of bm) ≡ bm

-- The columns of the bitmap of whole row pairs of columns are those columns.
abbrev pub ColumnsBitmap : Type 0
ColumnsBitmap = (pairs : ℕ) (cs : List State) → length cs ≡ pels_per_line * pairs → columns_of (bitmap_of pairs cs) ≡ cs

-- A bitmap that is taken is the bitmap of its columns.
abbrev pub BitmapColumns : Type 0
BitmapColumns = (bm : List ℕ) → Octets bm → bitmap_validity bm ≡ valid → bitmap_of (lines_of bm / 2) (columns_of bm) ≡ bm

-- The pels of a column stand at the bits of its position.
abbrev pub ColumnBits : Type 0
ColumnBits = (bm : List ℕ) (i : ℕ) → lines_of bm % 2 ≡ 0 → i < columns_per_line * lines_of bm →
    2 * bit_num bm (top_bit (position_after i)) + bit_num bm (bottom_bit (position_after i)) ≡ pels_of (get_or (columns_of bm) i (solid WW))
