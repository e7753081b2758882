-- A position and the columns so far say the same. Proved in proofs/Positions. Assumes nothing.
use Rattle.std.specs.Prelude.{◌≡◌, ℕ, suc, ◌*◌, ◌%◌, ◌<◌, ◌≤◌}
use Rattle.position.specs.declared.Position.{Position}
use Rattle.position.specs.Position.{pels_per_line, columns_before, position_after, advanced, last_x, x_after, top_bit, bottom_bit}

-- Where n columns are laid, 1726 times the pair plus the column is n, and the column is one of its row pair.
abbrev pub ColumnsAfter : Type 0
ColumnsAfter = (n : ℕ) → (columns_before (position_after n) ≡ n) × ((position_after n).column < pels_per_line)

-- So there is one position for each number of columns.
abbrev pub OnePosition : Type 0
OnePosition = (p : Position) → p.column < pels_per_line → position_after (columns_before p) ≡ p

-- X is the index in its row pair of the last column laid, and 1725 where there is none.
abbrev pub LastLaid : Type 0
LastLaid = (last_x (position_after 0) ≡ 1725) × ((n : ℕ) → last_x (position_after (suc n)) ≡ n % pels_per_line)

-- It moves on with the position.
abbrev pub XMovesOn : Type 0
XMovesOn = (p : Position) (n : ℕ) → p.column < pels_per_line → last_x (advanced p n) ≡ x_after (last_x p) n

-- On a page of so many row pairs no position is behind them.
abbrev pub PairsEnough : Type 0
PairsEnough = (n pairs : ℕ) → n ≤ pels_per_line * pairs → (position_after n).pair ≤ pairs

-- No two columns have a bit in common.
abbrev pub BitsApart : Type 0
BitsApart = (p q : Position) → p.column < pels_per_line → q.column < pels_per_line → (top_bit p ≡ top_bit q → p ≡ q) × (bottom_bit p ≡ bottom_bit q → p ≡ q) × (top_bit p ≡ bottom_bit q → ⊥)
