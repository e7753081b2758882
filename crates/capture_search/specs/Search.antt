-- The search for frames from a place on. Assumes nothing.
use Rattle.std.specs.Prelude.{List, [], ◌∷◌, ℕ, ◌+◌, ◌*◌, ◌-◌, ◌<◌, length, Option, Some, None}
use Rattle.register.specs.declared.Check.{Check}
use Rattle.capture.specs.Frames.{bit_of, frame_bits, taken_from}
use Rattle.capture.specs.declared.Place.{Place}

-- the frames that are taken from bit i on, which no frame before has
abbrev pub frames_from : Check → List ℕ → ℕ → List ℕ
frames_from c s i = taken_from c s i 0 (8 * length s - i)

-- what a search leaves: the frame found, and those from behind it on
abbrev pub frames_at : Check → List ℕ → Option Place → List ℕ
frames_at c s (Some p) = bit_of p ∷ frames_from c s (bit_of p + frame_bits)
frames_at c s None = []

-- what is found is a bit of an octet
abbrev pub IsPlace : Option Place → Type 0
IsPlace (Some p) = p.bit < 8
IsPlace None = Unit {0}
