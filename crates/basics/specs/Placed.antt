-- A list written into another. Assumes nothing.
use Rattle.std.specs.Prelude.{List, ◌++◌, ℕ, ◌+◌, length, take, drop}

-- xs stand at the front, and all behind is as it was
abbrev pub at_front : {A : Type 0} → List A → List A → List A
at_front xs o = xs ++ drop (length xs) o

-- from place n on stand xs; all else is as it was
unfoldable pub placed : {A : Type 0} → ℕ → List A → List A → List A
placed n xs o = take n o ++ (xs ++ drop (n + length xs) o)
