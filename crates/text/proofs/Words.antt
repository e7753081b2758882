-- Laws of writing a word octet by octet. Assumes nothing.
use mathlib.Core.Path.{◌≡◌}
use mathlib.Core.List.{List, [], ◌∷◌, ◌++◌}
use Prim.Native.Nat.{ℕ, ◌+◌, ◌<◌}
use native.Mathlib.Numerals.{add-one}
use lib.ListN.{length, drop, get_or}
use lib.Seq.{drop-cons}

-- what is left of a word at place i: its octet there, and what is left behind it
pub word_first : (ws : List ℕ) (i : ℕ) → i < length ws → drop i ws ≡ (get_or ws i 0 ∷ []) ++ drop (i + 1) ws
word_first ws i h = rw (add-one i) (drop-cons ws i 0 h)
