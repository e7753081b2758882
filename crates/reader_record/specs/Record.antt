-- What a record of a file comes to, after those before it: the file goes on, the page ends, or a refusal; and the columns that it lays.
-- Assumes nothing.
use Rattle.std.specs.Prelude.{cond, List, [], ℕ, ◌*◌, eqb, Result, Ok, Err}
use Rattle.refusal.specs.Fault.{fault_of}
use Rattle.refusal.specs.declared.Reason.TheVariants.{RecordOutOfPlace, SequenceWrong}
use Rattle.register.specs.declared.Check.{Check}
use Rattle.state.specs.declared.State.{State}
use Rattle.frame.specs.declared.FrameKind.TheVariants.{SetUp as SetUpFrame, Data as DataFrame}
use Rattle.frame.specs.declared.Header.{Header}
use Rattle.frame.specs.declared.Record.TheVariants.{SetUp, Data}
use Rattle.frame.specs.Layout.{header_of}
use Rattle.chain.specs.declared.Image.{Image}
use Rattle.reader_progress.specs.declared.FileProgress.{FileProgress}
use Rattle.reader_progress.specs.declared.RecordEffect.{RecordEffect}
use Rattle.reader_progress.specs.declared.RecordEffect.TheVariants.{On}
use Rattle.bitmap.specs.Validity.{most_lines}
use Rattle.reader_progress.specs.Progress.{with_set_up, with_data, page_at_end_within}
use Rattle.records.specs.declared.Kind.{Kind}
use Rattle.records.specs.declared.Kind.TheVariants.{Frame, End as EndDue}
use Rattle.records.specs.Records.{due_at, framed_at, sent_at, in_place}
use Rattle.chain.specs.Chain.{chained, frame_columns}
use Rattle.chain.specs.declared.NextImage.{NextImage}
use Rattle.frame.specs.declared.Record.{Record}
use Rattle.refusal.specs.declared.Fault.{Fault}
use Rattle.refusal.specs.declared.Reason.{Reason}

abbrev pub if_chained : FileProgress → Header → Result NextImage Fault → Result RecordEffect Fault
if_chained p h (Ok g) = Ok (On (Data h) (with_data p g.image))
if_chained p h (Err f) = Err f

-- a data frame: 7; a count of 0 means that nothing more is judged; else 8, 9, 12, 10, 11
unfoldable pub data_next : FileProgress → Header → List ℕ → Result RecordEffect Fault
data_next p h s =
    cond (eqb h.sequence p.sequence)
    (cond (eqb h.count 0) (Ok (On (Data h) (with_data p p.image))) (if_chained p h (chained p.image h s)))
    (Err (fault_of SequenceWrong))

-- a frame taken apart: 4, 5 and of a set-up 7, 6 as it was taken
abbrev pub taken_next : FileProgress → Result Record Reason → List ℕ → Result RecordEffect Fault
taken_next p (Err reason) s = Err (fault_of reason)
taken_next p (Ok (SetUp g)) s = Ok (On (SetUp g) (with_set_up p g))
taken_next p (Ok (Data h)) s = data_next p h s

-- a record in its place, where a page may have so many lines
abbrev pub kind_within : ℕ → Check → List ℕ → ℕ → FileProgress → Kind → Result RecordEffect Fault
kind_within most c file k p (Frame kind) = taken_next p (framed_at c file (76 * k) kind).taken (sent_at file k)
kind_within most c file k p EndDue = page_at_end_within most p k

-- 1 and 2 as the record is due, then 3
abbrev pub due_within : ℕ → Check → List ℕ → ℕ → FileProgress → Result Kind Reason → Result RecordEffect Fault
due_within most c file k p (Err reason) = Err (fault_of reason)
due_within most c file k p (Ok kind) = cond (in_place kind p.stage) (kind_within most c file k p kind) (Err (fault_of RecordOutOfPlace))

unfoldable pub next_within : ℕ → Check → List ℕ → ℕ → FileProgress → Result RecordEffect Fault
next_within most c file k p = due_within most c file k p (due_at file (76 * k))

abbrev pub next : Check → List ℕ → ℕ → FileProgress → Result RecordEffect Fault
next c file k p = next_within most_lines c file k p

-- the columns that record k lays: those of an image frame
abbrev pub due_columns : List ℕ → ℕ → Image → Result Kind Reason → List State
due_columns file k im (Err reason) = []
due_columns file k im (Ok (Frame SetUpFrame)) = []
due_columns file k im (Ok EndDue) = []
due_columns file k im (Ok (Frame DataFrame)) = cond (eqb (header_of (sent_at file k)).count 0) [] (frame_columns im (header_of (sent_at file k)) (sent_at file k))

unfoldable pub columns_at : List ℕ → ℕ → Image → List State
columns_at file k im = due_columns file k im (due_at file (76 * k))
