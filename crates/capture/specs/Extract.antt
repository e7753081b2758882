-- The frames of a list as a page file: reply and output together. Assumes nothing.
use Rattle.std.specs.Prelude.{Bool, true, cond, ◌&&◌, List, [], ◌∷◌, ◌++◌, ℕ, ◌+◌, ◌*◌, ltb, length, Result, Ok, Err}
use Rattle.turning.specs.Turned.{turned_from}
use Rattle.frame.specs.Layout.{kind_of, record_of, end_record}
use Rattle.refusal.specs.declared.Reason.TheVariants.{ListOutside}
use Rattle.refusal.specs.Number.{number_of}
use Rattle.refusal.specs.Reply.{Reply, gives, refuses, Outcome, delivered}
use Rattle.capture.specs.Frames.{captured_at, has_room}
use Rattle.refusal.specs.declared.Reason.{Reason}

-- A list's entries are an octet and a bit each. A number behind the last whole entry is not read.

-- every entry has a bit of an octet, and a frame has room there
unfoldable pub all_within : List ℕ → List ℕ → Bool
all_within s [] = true
all_within s (o ∷ []) = true
all_within s (o ∷ b ∷ rest) = (ltb b 8 && has_room s (8 * o + b)) && all_within s rest

-- a frame in sent order as a record, of the kind that its header says
abbrev pub record_of_frame : List ℕ → List ℕ
record_of_frame f = record_of (kind_of f) (turned_from f 0 74)

-- the frames of the entries, each a record; sync and check are not judged again
unfoldable pub records_of_list : List ℕ → List ℕ → List ℕ
records_of_list s [] = []
records_of_list s (o ∷ []) = []
records_of_list s (o ∷ b ∷ rest) = record_of_frame (captured_at s (8 * o + b)) ++ records_of_list s rest

-- and the end record behind them
unfoldable pub file_of_list : List ℕ → List ℕ → List ℕ
file_of_list s list = records_of_list s list ++ end_record

-- 25, then 16; the value is the number of octets. There are no records yet, so every refusal falls at record 0.
unfoldable pub records_of_frames : List ℕ → List ℕ → List ℕ → Outcome ℕ ℕ
records_of_frames s list o = cond (all_within s list) (delivered (length (file_of_list s list)) 0 (file_of_list s list) o) (refuses (number_of ListOutside) 0, o)
