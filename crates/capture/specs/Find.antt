-- The call that lists the frames of a capture: reply and list together. Assumes nothing.
use Rattle.std.specs.Prelude.{Bool, cond, ◌&&◌, List, [], ◌∷◌, ℕ, ◌/◌, ◌%◌, length, Result, Ok, Err}
use Rattle.register.specs.declared.Check.{Check}
use Rattle.register.specs.Setting.{allowed_check}
use Rattle.refusal.specs.declared.Reason.TheVariants.{RequestNotAllowed}
use Rattle.refusal.specs.Number.{number_of}
use Rattle.refusal.specs.Reply.{Reply, gives, refuses, Outcome, delivered}
use Rattle.capture.specs.Frames.{frames_in}
use Rattle.refusal.specs.declared.Reason.{Reason}

-- the list of places: of each the octet, and the bit in it, 0 the high one
unfoldable pub list_of : List ℕ → List ℕ
list_of [] = []
list_of (i ∷ is) = i / 8 ∷ i % 8 ∷ list_of is

-- a setting by which frames can be told: allowed, and compared
unfoldable pub tells_frames : Check → Bool
tells_frames c = allowed_check c && c.compare

-- 20, then 16; the value is the number of frames. A capture has no records, so every refusal falls at record 0.
unfoldable pub find_frames : Check → List ℕ → List ℕ → Outcome ℕ ℕ
find_frames c s o = cond (tells_frames c) (delivered (length (frames_in c s)) 0 (list_of (frames_in c s)) o) (refuses (number_of RequestNotAllowed) 0, o)
