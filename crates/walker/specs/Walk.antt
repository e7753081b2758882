-- A walker after a step, and its place after so many steps. Assumes nothing.
use Rattle.std.specs.Prelude.{List, ℕ, zero, suc}
use Rattle.register.specs.declared.Check.{Check}
use Rattle.walker.specs.declared.Walker.{Walker}
use Rattle.record_found.specs.Found.{step_at}

-- a walker after a step: it holds the same file
abbrev pub walked_on : Check → Walker → Walker
walked_on c w = record { file = w.file; at = (step_at c w.file.now w.at).next }

-- the place after k steps from the file's start
unfoldable pub place_of : Check → List ℕ → ℕ → ℕ
place_of c file zero = 0
place_of c file (suc k) = (step_at c file (place_of c file k)).next
