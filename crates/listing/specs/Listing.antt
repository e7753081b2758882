-- The listing of a file: a line for each record, and then what the file comes to. Assumes nothing.
use Rattle.std.specs.Prelude.{cond, List, ◌++◌, ℕ, zero, suc, ltb, length, Result, Ok, Err}
use Rattle.text.specs.Text.{codes}
use Rattle.refusal.specs.Fault.{at_record}
use Rattle.refusal.specs.Reply.{Outcome, delivered}
use Rattle.register.specs.declared.Check.{Check}
use Rattle.register.specs.Setting.{allowed_check}
use Rattle.reader_progress.specs.declared.RecordEffect.{RecordEffect}
use Rattle.reader_progress.specs.declared.RecordEffect.TheVariants.{On, Page as Ends}
use Rattle.reader_progress.specs.declared.FileProgress.{FileProgress}
use Rattle.reader_progress.specs.Progress.{first_progress}
use Rattle.reader_record.specs.Record.{next}
use Rattle.record_lines.specs.Lines.{record_line, end_lines, refused_line, refusal_line}
use Rattle.refusal.specs.declared.Fault.{Fault}

-- ---- a file

-- what record k is listed as, where `go` lists the records after it
abbrev pub lines : Result RecordEffect Fault → ℕ → (FileProgress → List ℕ) → List ℕ
lines (Err f) k go = refusal_line (at_record f k)
lines (Ok (Ends t)) k go = end_lines k t.lines
lines (Ok (On r p)) k go = record_line k r ++ go p

-- from record k on, each judged as the reader judges it; there are at most n records
unfoldable pub list_from : Check → List ℕ → ℕ → ℕ → FileProgress → List ℕ
list_from c file zero k p = refused_line 1 k 0
list_from c file (suc n) k p = lines (next c file k p) k (λ q. list_from c file n (suc k) q)

-- from the first record on; there are no more records than octets
unfoldable pub listing_by : Check → List ℕ → List ℕ
listing_by c file = list_from c file (length file) 0 first_progress

-- ---- the call

-- a file of more octets is not listed
unfoldable pub most_file : ℕ
most_file = 65536

-- room for any listing: those octets and a record's more
unfoldable pub most_text : ℕ
most_text = 65612

-- 20 before all, once the file is not too long
unfoldable pub listing : Check → List ℕ → List ℕ
listing c file =
    cond (ltb most_file (length file)) (codes "too long\n")
    (cond (allowed_check c) (listing_by c file) (refused_line 20 0 0))

-- 16 at record 0 where the text has no room: a listing is no file of records
unfoldable pub list : Check → List ℕ → List ℕ → Outcome ℕ ℕ
list c file o = delivered (length (listing c file)) 0 (listing c file) o
