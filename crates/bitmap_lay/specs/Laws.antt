-- What columns are laid on at first. Proved in proofs/Lays. Assumes nothing.
use Rattle.std.specs.Prelude.{◌≡◌, List, [], ℕ, ◌*◌, ◌≤◌, replicate}
use Rattle.position.specs.Position.{pels_per_line}
use Rattle.bitmap.specs.Form.{bitmap_of_rows}
use Rattle.bitmap.specs.Validity.{most_lines}
use Rattle.bitmap.specs.Laid.{Room}

-- A page that was just cleared is one on which no columns are laid, with room for as many as its row pairs have.
abbrev pub RoomStart : Type 0
RoomStart = (o : List ℕ) (pairs n : ℕ) → 2 * pairs ≤ most_lines → n ≤ pels_per_line * pairs → o ≡ bitmap_of_rows (replicate (2 * pairs) []) → Room 0 n o
