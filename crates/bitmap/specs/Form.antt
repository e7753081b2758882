-- A page as rows of pels, as columns, and as a bitmap. A pel is a bit: I is black, O is white. Assumes nothing.
use Rattle.std.specs.Prelude.{List, [], ◌∷◌, ◌++◌, map, ℕ, zero, suc, ◌+◌, ◌*◌, ◌/◌, ◌%◌, length, get_or, take, drop}
use Rattle.octets.specs.Bits.{Bit, num, to_bit, bit_num, bits_from, packed}
use Rattle.state.specs.declared.State.{State}
use Rattle.state.specs.Pels.{pels_of, state_of}
use Rattle.position.specs.Position.{pels_per_line, octets_per_line, bits_per_line, octets_in_front}

-- a line's pels, from the left
abbrev pub Row : Type 0
Row = List Bit

-- the first four octets: pels per line and lines, low octet first
abbrev pub sizes : ℕ → List ℕ
sizes lines = pels_per_line % 256 ∷ pels_per_line / 256 ∷ lines % 256 ∷ lines / 256 ∷ []

-- a row's octets, the leftmost pel the high bit; bits for which a row has no pel are 0, so the two trailing bits are
unfoldable pub line_octets : List Row → List ℕ
line_octets [] = []
line_octets (row ∷ rows) = packed octets_per_line row ++ line_octets rows

unfoldable pub bitmap_of_rows : List Row → List ℕ
bitmap_of_rows rows = sizes (length rows) ++ line_octets rows

-- the lines that a bitmap says it has
abbrev pub lines_of : List ℕ → ℕ
lines_of bm = get_or bm 2 0 + 256 * get_or bm 3 0

-- row r, and n rows from row r on
abbrev pub row_at : List ℕ → ℕ → Row
row_at bm r = bits_from bm (8 * octets_in_front + bits_per_line * r) pels_per_line

unfoldable pub rows_from : List ℕ → ℕ → ℕ → List Row
rows_from bm r zero = []
rows_from bm r (suc n) = row_at bm r ∷ rows_from bm (suc r) n

unfoldable pub rows_of : List ℕ → List Row
rows_of bm = rows_from bm 0 (lines_of bm)

abbrev pub top_of : State → Bit
top_of s = to_bit (pels_of s / 2)

abbrev pub bottom_of : State → Bit
bottom_of s = to_bit (pels_of s % 2)

-- the rows of so many row pairs
unfoldable pub row_pairs : ℕ → List State → List Row
row_pairs zero cs = []
row_pairs (suc pairs) cs = map top_of (take pels_per_line cs) ∷ map bottom_of (take pels_per_line cs) ∷ row_pairs pairs (drop pels_per_line cs)

-- a row over another
unfoldable pub pair_rows : Row → Row → List State
pair_rows [] bs = []
pair_rows (t ∷ ts) [] = []
pair_rows (t ∷ ts) (b ∷ bs) = state_of (2 * num t + num b) ∷ pair_rows ts bs

unfoldable pub columns_of_rows : List Row → List State
columns_of_rows [] = []
columns_of_rows (row ∷ []) = []
columns_of_rows (top ∷ bottom ∷ rows) = pair_rows top bottom ++ columns_of_rows rows

-- the bitmap of so many row pairs; columns that are not given are white
unfoldable pub bitmap_of : ℕ → List State → List ℕ
bitmap_of pairs cs = bitmap_of_rows (row_pairs pairs cs)

unfoldable pub columns_of : List ℕ → List State
columns_of bm = columns_of_rows (rows_of bm)

-- column k of two rows that begin at octets top and bottom
unfoldable pub column_at : List ℕ → ℕ → ℕ → ℕ → ℕ
column_at bm top bottom k = 2 * bit_num bm (8 * top + k) + bit_num bm (8 * bottom + k)
