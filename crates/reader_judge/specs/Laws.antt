-- What holds of every file that is judged a page, of the record and the bit that a judgement falls at, of a file that is refused by 11, of the position while a file is read, and of a
-- file's beginning. Proved in proofs/Answers, and the last three in proofs/Stopped, proofs/Positions and proofs/Beginning. Assumes nothing.
use Rattle.std.specs.Prelude.{◌≡◌, List, ◌++◌, ℕ, suc, ◌+◌, ◌*◌, ◌/◌, ◌≤◌, ◌<◌, ◌^◌, length, take, Ok}
use Rattle.octets.specs.Bits.{bits_from}
use Rattle.refusal.specs.Reply.{Reply, gives, refuses_at, BitFits}
use Rattle.register.specs.declared.Check.{Check}
use Rattle.state.specs.declared.State.{State}
use Rattle.bitmap.specs.Validity.{most_lines}
use Rattle.position.specs.Position.{pels_per_line, columns_before, position_after}
use Rattle.frame.specs.declared.Record.{Record}
use Rattle.frame.specs.Layout.{header_of}
use Rattle.records.specs.Records.{sent_at}
use Rattle.diagram.specs.Diagram.{LongestBeginning}
use Rattle.chain.specs.Chain.{blank, start_of}
use Rattle.reader_progress.specs.declared.Page.{Page}
use Rattle.reader_progress.specs.declared.FileProgress.{FileProgress}
use Rattle.reader_progress.specs.declared.RecordEffect.TheVariants.{On}
use Rattle.reader_progress.specs.Progress.{first_progress}
use Rattle.reader_record.specs.Record.{next}
use Rattle.reader_record.specs.LayingPass.{columns_over}
use Rattle.reader_judge.specs.File.{refused, page, most_octets, file_reading, judge_page}

-- a file that says the page t with the columns cs
pub record PageFacts (file : List ℕ) (t : Page) (cs : List State) : Type 0 where
  -- the records before the end record, of 76 octets each; the end record is among the octets that there are
  pub records : ℕ
  pub octets : t.octets ≡ 76 * records + 2
  pub inside : t.octets ≤ length file
  -- the columns are those that the second pass lays of these records
  pub columns : cs ≡ columns_over (take most_octets file) records 0 blank
  -- they are as many as the page says, whole row pairs, and not more than a page may have
  pub count : length cs ≡ t.columns.0
  pub pairs : ℕ
  pub whole : t.columns.0 ≡ pels_per_line * pairs
  pub lines : t.lines ≡ 2 * pairs
  pub few : t.lines ≤ most_lines

-- Of every file that says a page, under any check setting, these facts hold.
abbrev pub PageIs : Type 0
PageIs = (c : Check) (file : List ℕ) (t : Page) (cs : List State) → file_reading c file ≡ page t cs → PageFacts file t cs

-- the record that a judgement falls at: the one that is refused, or the end record
abbrev pub place_of : Reply Page → ℕ
place_of (refuses_at n k b) = k
place_of (gives t) = t.octets / 76

-- It is below 2^40, so that the number that C gets holds it.
abbrev pub JudgedPlace : Type 0
JudgedPlace = (c : Check) (file : List ℕ) → place_of (judge_page c file) < 2 ^ 40

-- With 11 goes a bit of the record's data part, and with every other number 0.
abbrev pub JudgedBit : Type 0
JudgedBit = (c : Check) (file : List ℕ) → BitFits (judge_page c file)

-- ---- while a file is read

-- a progress before record k: that of the records before it, behind each of which the file goes on
pub data Reached (c : Check) (file : List ℕ) : ℕ → FileProgress → Type 0 where
  at_first : Reached c file 0 first_progress
  and_next : {k : ℕ} {p q : FileProgress} {r : Record} → Reached c file k p → next c file k p ≡ Ok (On r q) → Reached c file (suc k) q

-- ---- where a file is refused by 11

-- it stops so at record k, with bit b: the records before it come to a progress, and b is the length of the longest beginning of record k's data part that has a
-- reading, from where the chain of that progress has it read
pub record StopsAt (c : Check) (file : List ℕ) (k b : ℕ) : Type 0 where
  pub progress : FileProgress
  pub reached : Reached c file k progress
  pub bit : LongestBeginning (start_of progress.image (header_of (sent_at file k))) (bits_from (sent_at file k) 61 (header_of (sent_at file k)).count) b

-- Every file that is refused by 11 does.
abbrev pub RefusedBy11 : Type 0
RefusedBy11 = (c : Check) (file : List ℕ) (k b : ℕ) → file_reading c file ≡ refused 11 k b → StopsAt c (take most_octets file) k b

-- ---- the position before record k

-- The position is one of its row pair, and before 15 is judged, at the end record, it is bounded by the file alone: 122 columns an octet.
abbrev pub PositionByFile : Type 0
PositionByFile = (c : Check) (file : List ℕ) (k : ℕ) (p : FileProgress) → Reached c file k p → (columns_before p.image.position ≤ 122 * length file) × (p.image.position.column < pels_per_line)

-- Of a page 15 bounds it: behind the last column stand whole row pairs, and their lines are at most as many as a page may have.
abbrev pub PositionOfPage : Type 0
PositionOfPage = (c : Check) (file : List ℕ) (t : Page) (cs : List State) → file_reading c file ≡ page t cs →
    ((position_after t.columns.0).column ≡ 0) × (2 * (position_after t.columns.0).pair ≤ most_lines)

-- ---- the beginning of a file

-- What is read of the beginning of a file is read of all of it, unless the beginning stops too early: 1.
abbrev pub BeginningStands : Type 0
BeginningStands = (c : Check) (file rest : List ℕ) → ((k : ℕ) → file_reading c file ≡ refused 1 k 0 → ⊥) → file_reading c (file ++ rest) ≡ file_reading c file
