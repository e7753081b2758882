-- How long the records of a list are, part by part; and that every list that was found can be written. Proved in proofs/Extracts. Assumes nothing.
use Rattle.std.specs.Prelude.{◌≡◌, true, List, ◌++◌, ℕ, ◌+◌, ◌*◌, ◌/◌, ◌%◌, ◌≤◌, length}
use Rattle.basics.specs.Placed.{at_front}
use Rattle.refusal.specs.Reply.{gives}
use Rattle.register.specs.declared.Check.{Check}
use Rattle.capture.specs.Frames.{frames_in}
use Rattle.capture.specs.Find.{list_of}
use Rattle.capture.specs.Extract.{all_within, records_of_list, file_of_list, records_of_frames}

-- A list may be written in parts of whole entries: the records of one part stand behind those of the other, 76 octets for each entry.
abbrev pub RecordsInParts : Type 0
RecordsInParts =
    ((s xs ys : List ℕ) → length xs % 2 ≡ 0 → records_of_list s (xs ++ ys) ≡ records_of_list s xs ++ records_of_list s ys)
    × ((s list : List ℕ) → length (records_of_list s list) ≡ 76 * (length list / 2))

-- Where all entries are within, so many octets, and 2 for the end record, are enough.
abbrev pub RoomForRecords : Type 0
RoomForRecords = (s list o : List ℕ) → all_within s list ≡ true → 76 * (length list / 2) + 2 ≤ length o →
    records_of_frames s list o ≡ (gives (76 * (length list / 2) + 2), at_front (file_of_list s list) o)

-- The list of what was found is within: it is never refused by 25.
abbrev pub FoundWithin : Type 0
FoundWithin = (c : Check) (s : List ℕ) → all_within s (list_of (frames_in c s)) ≡ true
