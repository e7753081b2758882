-- The call on a page file: its reply and its output, together. Assumes nothing.
use Rattle.std.specs.Prelude.{List, ℕ, ◌/◌}
use Rattle.refusal.specs.Reply.{refuses_at, Outcome, delivered}
use Rattle.register.specs.declared.Check.{Check}
use Rattle.bitmap.specs.Form.{bitmap_of}
use Rattle.bitmap.specs.Validity.{most_lines}
use Rattle.reader_progress.specs.declared.Page.{Page}
use Rattle.reader_judge.specs.File.{FileReading, refused, page, file_reading_within}

-- the page as a bitmap, where there is room: 16 at the end record, which follows records of 76 octets
abbrev pub laid_out : FileReading → List ℕ → Outcome Page ℕ
laid_out (refused n k b) o = (refuses_at n k b, o)
laid_out (page t cs) o = delivered t (t.octets / 76) (bitmap_of (t.lines / 2) cs) o

-- where a page may have so many lines
unfoldable pub read_page_within : ℕ → Check → List ℕ → List ℕ → Outcome Page ℕ
read_page_within most c file o = laid_out (file_reading_within most c file) o

abbrev pub read_page : Check → List ℕ → List ℕ → Outcome Page ℕ
read_page c file o = read_page_within most_lines c file o
