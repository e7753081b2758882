-- The lines that say where the frames of a capture stand, and how many they are. Assumes nothing.
use Rattle.std.specs.Prelude.{List, ◌++◌, ℕ}
use Rattle.text.specs.Text.{codes, decimal}

unfoldable pub place_line : ℕ → ℕ → List ℕ
place_line octet bit = (codes "octet " ++ decimal octet) ++ ((codes " bit " ++ decimal bit) ++ codes "\n")

unfoldable pub count_line : ℕ → List ℕ
count_line n = (codes "ok frames " ++ decimal n) ++ codes "\n"
