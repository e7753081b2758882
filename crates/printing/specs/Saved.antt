-- A bitmap written as a file: reply and output together, within any largest number of lines and then this installation's. Assumes nothing.
use Rattle.std.specs.Prelude.{List, ℕ, length}
use Rattle.refusal.specs.Reply.{Outcome, delivered, if_valid}
use Rattle.bitmap.specs.Validity.{most_lines, validity_within}

-- 17 and 18, then 16; the value is the number of octets. A page is no file of records, so every refusal falls at record 0.
unfoldable pub saved_within : ℕ → List ℕ → List ℕ → List ℕ → Outcome ℕ ℕ
saved_within most bm file o = if_valid (validity_within most bm) (delivered (length file) 0 file o) o

abbrev pub saved : List ℕ → List ℕ → List ℕ → Outcome ℕ ℕ
saved bm file o = saved_within most_lines bm file o
