-- The measures of a page, and a position on it. Assumes nothing.
use Rattle.std.specs.Prelude.{ℕ, zero, suc, ◌+◌, ◌-◌, ◌*◌, ◌/◌, ◌%◌}
use Rattle.position.specs.declared.Position.{Position}

-- ---- the measures

-- the pels of a line, and so the columns of a row pair
abbrev pub pels_per_line : ℕ
pels_per_line = 1726

-- the last column of a row pair, at the right edge
abbrev pub last_column : ℕ
last_column = pels_per_line - 1

-- a row pair's columns, by its two lines
abbrev pub columns_per_line : ℕ
columns_per_line = pels_per_line / 2

-- a line in a bitmap: its pels, and two bits behind them
abbrev pub octets_per_line : ℕ
octets_per_line = 216

abbrev pub bits_per_line : ℕ
bits_per_line = 8 * octets_per_line

abbrev pub octets_per_pair : ℕ
octets_per_pair = 2 * octets_per_line

-- the octets in front of the lines
abbrev pub octets_in_front : ℕ
octets_in_front = 4

-- ---- the position, by pair and column of the next column to lay

-- the columns so far
abbrev pub columns_before : Position → ℕ
columns_before p = pels_per_line * p.pair + p.column

-- the position where n columns are laid
unfoldable pub position_after : ℕ → Position
position_after n = record { pair = n / pels_per_line; column = n % pels_per_line }

-- the position where n columns more are laid
abbrev pub advanced : Position → ℕ → Position
advanced p n = position_after (columns_before p + n)

-- X: the index in its row pair of the column before a column; before column 0 stands the last one of a row pair
abbrev pub index_before : ℕ → ℕ
index_before zero = last_column
index_before (suc column) = column

abbrev pub last_x : Position → ℕ
last_x p = index_before p.column

-- X where n columns more are laid: 0 comes after the last column
unfoldable pub x_after : ℕ → ℕ → ℕ
x_after x n = (x + n) % pels_per_line

-- the bit of a bitmap that is the column's top pel; its bottom pel is that of the next line
abbrev pub top_bit : Position → ℕ
top_bit p = 8 * (octets_in_front + octets_per_pair * p.pair) + p.column

abbrev pub bottom_bit : Position → ℕ
bottom_bit p = top_bit p + bits_per_line
