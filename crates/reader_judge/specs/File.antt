-- What a file of octets says under a check setting: a refusal with its record and bit, or a page. Assumes nothing.
use Rattle.std.specs.Prelude.{cond, List, [], ◌++◌, ℕ, zero, suc, ◌^◌, length, take, Result, Ok, Err}
use Rattle.refusal.specs.Number.{number_of}
use Rattle.refusal.specs.Reply.{Reply, gives, refuses_at}
use Rattle.register.specs.declared.Check.{Check}
use Rattle.register.specs.Setting.{allowed_check}
use Rattle.state.specs.declared.State.{State}
use Rattle.reader_progress.specs.declared.Page.{Page}
use Rattle.reader_progress.specs.declared.FileProgress.{FileProgress}
use Rattle.reader_progress.specs.declared.RecordEffect.{RecordEffect}
use Rattle.reader_progress.specs.declared.RecordEffect.TheVariants.{On, Page as Ends}
use Rattle.reader_progress.specs.Progress.{first_progress}
use Rattle.bitmap.specs.Validity.{most_lines}
use Rattle.reader_record.specs.Record.{next_within, columns_at}
use Rattle.refusal.specs.declared.Fault.{Fault}

-- what a file says: a refusal by a number, at a record, with a bit; or a page and its columns in order
pub data FileReading : Type 0 where
  refused : ℕ → ℕ → ℕ → FileReading
  page : Page → List State → FileReading

abbrev pub laying : List State → FileReading → FileReading
laying cs (refused n k b) = refused n k b
laying cs (page t ds) = page t (cs ++ ds)

-- what record k leads to, where `go` reads the records after it
abbrev pub after_record : Result RecordEffect Fault → ℕ → List State → (FileProgress → FileReading) → FileReading
after_record (Err f) k cs go = refused (number_of f.reason) k f.bit
after_record (Ok (Ends t)) k cs go = page t []
after_record (Ok (On r p)) k cs go = laying cs (go p)

-- from record k on, where a page may have so many lines; there are at most n records
unfoldable pub reading_from_within : ℕ → Check → List ℕ → ℕ → ℕ → FileProgress → FileReading
reading_from_within most c file zero k p = refused 1 k 0
reading_from_within most c file (suc n) k p = after_record (next_within most c file k p) k (columns_at file k p.image) (λ q. reading_from_within most c file n (suc k) q)

abbrev pub file_reading_from : Check → List ℕ → ℕ → ℕ → FileProgress → FileReading
file_reading_from c file n k p = reading_from_within most_lines c file n k p

-- from the first record on; there are no more records than octets
unfoldable pub reading_by_within : ℕ → Check → List ℕ → FileReading
reading_by_within most c file = reading_from_within most c file (length file) 0 first_progress

abbrev pub file_reading_by : Check → List ℕ → FileReading
file_reading_by c file = reading_by_within most_lines c file

-- the octets of a file that are read, so that a record's index is below 2^40 and no count can overflow: a file whose end record is not among them
-- is refused by 1
unfoldable pub most_octets : ℕ
most_octets = 2 ^ 46

-- 20 before all
unfoldable pub file_reading_within : ℕ → Check → List ℕ → FileReading
file_reading_within most c file = cond (allowed_check c) (reading_by_within most c (take most_octets file)) (refused 20 0 0)

abbrev pub file_reading : Check → List ℕ → FileReading
file_reading c file = file_reading_within most_lines c file

-- ---- the call that judges alone

abbrev pub judgement_of : FileReading → Reply Page
judgement_of (refused n k b) = refuses_at n k b
judgement_of (page t cs) = gives t

unfoldable pub judge_page_within : ℕ → Check → List ℕ → Reply Page
judge_page_within most c file = judgement_of (file_reading_within most c file)

abbrev pub judge_page : Check → List ℕ → Reply Page
judge_page c file = judge_page_within most_lines c file
