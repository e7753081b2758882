-- How often each line of a page is printed, and the rows of a page printed so. Assumes nothing.
use Rattle.std.specs.Prelude.{List, [], ◌++◌, ℕ, zero, suc, ◌+◌, ◌*◌, ◌/◌, take, drop, replicate}
use Rattle.position.specs.Position.{octets_per_line, octets_in_front}
use Rattle.bitmap.specs.Form.{lines_of}
use Rattle.printing.specs.declared.Times.{Times}
use Rattle.printing.specs.declared.Times.TheVariants.{Once, Twice, Thrice}

abbrev pub times_of : Times → ℕ
times_of Once = 1
times_of Twice = 2
times_of Thrice = 3

-- n rows, each so many times
unfoldable pub printed_rows : ℕ → ℕ → List ℕ → List (List ℕ)
printed_rows times zero cs = []
printed_rows times (suc n) cs = replicate times (take octets_per_line cs) ++ printed_rows times n (drop octets_per_line cs)

-- the lines of a bitmap printed so, and their rows
abbrev pub printed_lines : Times → List ℕ → ℕ
printed_lines times bm = times_of times * lines_of bm

abbrev pub printed_of : Times → List ℕ → List (List ℕ)
printed_of times bm = printed_rows (times_of times) (lines_of bm) (drop octets_in_front bm)

-- where in a bitmap the row stands that is printed as row k
abbrev pub row_place : Times → ℕ → ℕ
row_place times k = octets_in_front + octets_per_line * (k / times_of times)
