-- A listing says what the reader says: a line for each record behind which the file goes on, in order, and then what the file is judged to be.
-- Proved in proofs/Agrees. Assumes nothing.
use Rattle.std.specs.Prelude.{◌≡◌, cond, List, [], ◌∷◌, ◌++◌, ℕ, zero, suc, ◌/◌, ◌≤◌, length, Result, Ok, Err}
use Rattle.refusal.specs.Reply.{Reply, gives, refuses_at}
use Rattle.register.specs.declared.Check.{Check}
use Rattle.register.specs.Setting.{allowed_check}
use Rattle.frame.specs.declared.Record.{Record}
use Rattle.reader_progress.specs.declared.Page.{Page}
use Rattle.reader_progress.specs.declared.RecordEffect.{RecordEffect}
use Rattle.reader_progress.specs.declared.RecordEffect.TheVariants.{On, Page as Ends}
use Rattle.reader_progress.specs.declared.FileProgress.{FileProgress}
use Rattle.reader_progress.specs.Progress.{first_progress}
use Rattle.reader_record.specs.Record.{next}
use Rattle.reader_judge.specs.File.{judge_page}
use Rattle.record_lines.specs.Lines.{record_line, end_lines, refused_line}
use Rattle.listing.specs.Listing.{most_file, listing}
use Rattle.refusal.specs.declared.Fault.{Fault}

-- a record, if the file goes on behind it, and those that `go` has behind it
abbrev pub record_and : Result RecordEffect Fault → (FileProgress → List Record) → List Record
record_and (Ok (On r q)) go = r ∷ go q
record_and (Ok (Ends t)) go = []
record_and (Err f) go = []

-- the records behind which a file goes on, from record k on; there are at most n
unfoldable pub records_from : Check → List ℕ → ℕ → ℕ → FileProgress → List Record
records_from c file zero k p = []
records_from c file (suc n) k p = record_and (next c file k p) (λ q. records_from c file n (suc k) q)

-- of a file; under a setting that is not allowed no record is looked at
unfoldable pub records_of : Check → List ℕ → List Record
records_of c file = cond (allowed_check c) (records_from c file (length file) 0 first_progress) []

-- a line for each, from record k on
unfoldable pub record_lines : ℕ → List Record → List ℕ
record_lines k [] = []
record_lines k (r ∷ rs) = record_line k r ++ record_lines (suc k) rs

-- the last lines, by the judgement of the file: that of the refusal, or the end record's with the page's lines
abbrev pub ending : Reply Page → List ℕ
ending (refuses_at n k b) = refused_line n k b
ending (gives t) = end_lines (t.octets / 76) t.lines

abbrev pub ListingAgrees : Type 0
ListingAgrees = (c : Check) (file : List ℕ) → length file ≤ most_file → listing c file ≡ record_lines 0 (records_of c file) ++ ending (judge_page c file)
