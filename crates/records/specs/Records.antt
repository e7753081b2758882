-- The records of a file: which is due at a place, and which may come after those before it. Assumes nothing.
-- A file is one or more set-up records, one or more data records, any number of set-up records, then the end record.
use Rattle.std.specs.Prelude.{Bool, true, false, cond, List, ℕ, ◌+◌, ◌*◌, ◌-◌, ltb, eqb, length, get_or, drop, Result, Ok, Err}
use Rattle.turning.specs.Turned.{turned_from}
use Rattle.register.specs.declared.Check.{Check}
use Rattle.frame.specs.declared.FrameKind.{FrameKind}
use Rattle.frame.specs.declared.FrameKind.TheVariants.{SetUp, Data}
use Rattle.frame.specs.Layout.{parsed}
use Rattle.refusal.specs.declared.Reason.TheVariants.{RecordIncomplete, RecordUnknown}
use Rattle.records.specs.declared.Kind.{Kind}
use Rattle.records.specs.declared.Kind.TheVariants.{Frame, End}
use Rattle.records.specs.declared.Framed.{Framed}
use Rattle.records.specs.declared.Stage.{Stage}
use Rattle.records.specs.declared.Stage.TheVariants.{Opening, SetUps, Datas, Closing}
use Rattle.refusal.specs.declared.Reason.{Reason}

-- a record of 76 octets with a frame, if so many are left
abbrev pub whole : FrameKind → ℕ → Result Kind Reason
whole kind left = cond (ltb left 76) (Err RecordIncomplete) (Ok (Frame kind))

-- what a pair of length and command says, where `left` octets are left
unfoldable pub pair_of : ℕ → ℕ → ℕ → Result Kind Reason
pair_of len command left =
    cond (eqb len 2)
    (cond (eqb command 58) (Ok End) (Err RecordUnknown))
    (cond (eqb len 76)
    (cond (eqb command 56) (whole SetUp left) (cond (eqb command 57) (whole Data left) (Err RecordUnknown)))
    (Err RecordUnknown))

-- the record that is due at octet `at`: 1, 2
unfoldable pub due_at : List ℕ → ℕ → Result Kind Reason
due_at file at = cond (ltb (length file) (at + 2)) (Err RecordIncomplete) (pair_of (get_or file at 0) (get_or file (at + 1) 0) (length file - at))

-- the frame, in sent order, of the record that begins at octet `at`
abbrev pub frame_at : List ℕ → ℕ → List ℕ
frame_at file at = turned_from (drop (at + 2) file) 0 74

-- and what it is taken apart to, as one of its kind: 4, 5, and of a set-up 7, 6
abbrev pub framed_at : Check → List ℕ → ℕ → FrameKind → Framed
framed_at c file at kind = record { octets = frame_at file at; taken = parsed c kind (frame_at file at) }

-- the frame of record k: every record before the end record has 76 octets
abbrev pub sent_at : List ℕ → ℕ → List ℕ
sent_at file k = frame_at file (76 * k)

-- whether a record may come at a stage: 3 where not
abbrev pub data_in_place : Stage → Bool
data_in_place Opening = false
data_in_place SetUps = true
data_in_place Datas = true
data_in_place Closing = false

abbrev pub end_in_place : Stage → Bool
end_in_place Opening = false
end_in_place SetUps = false
end_in_place Datas = true
end_in_place Closing = true

abbrev pub in_place : Kind → Stage → Bool
in_place (Frame SetUp) stage = true
in_place (Frame Data) stage = data_in_place stage
in_place End stage = end_in_place stage

-- the stage after a set-up record; after a data record it is Datas
abbrev pub after_set_up : Stage → Stage
after_set_up Opening = SetUps
after_set_up SetUps = SetUps
after_set_up Datas = Closing
after_set_up Closing = Closing
