-- The rows of a page as they are printed. Assumes nothing.
use Rattle.std.specs.Prelude.{List, ℕ, drop}
use Rattle.position.specs.Position.{octets_in_front}
use Rattle.printing.specs.Printing.{times_of, printed_rows}
use Rattle.printing.specs.declared.PrintedPage.{PrintedPage}

abbrev pub rows_of : PrintedPage → List (List ℕ)
rows_of p = printed_rows (times_of p.times) p.lines (drop octets_in_front p.bitmap.now)
