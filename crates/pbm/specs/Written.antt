-- A bitmap written as a portable bitmap: reply and output together, within any largest number of lines and then this installation's. Assumes nothing.
use mathlib.Core.List.{List, ◌++◌, flatten}
use Rattle.std.specs.Prelude.{ℕ}
use Rattle.text.specs.Text.{codes, decimal}
use Rattle.refusal.specs.Reply.{Outcome}
use Rattle.printing.specs.declared.Times.{Times}
use Rattle.printing.specs.Printing.{printed_lines, printed_of}
use Rattle.printing.specs.Saved.{saved_within, saved}

unfoldable pub head_text : ℕ → List ℕ
head_text lines = (codes "P4\n1726 " ++ decimal lines) ++ codes "\n"

-- each line as often as it is printed
unfoldable pub pbm_of : Times → List ℕ → List ℕ
pbm_of times bm = head_text (printed_lines times bm) ++ flatten (printed_of times bm)

abbrev pub pbm_of_bitmap_within : ℕ → List ℕ → Times → List ℕ → Outcome ℕ ℕ
pbm_of_bitmap_within most bm times o = saved_within most bm (pbm_of times bm) o

abbrev pub pbm_of_bitmap : List ℕ → Times → List ℕ → Outcome ℕ ℕ
pbm_of_bitmap bm times o = saved bm (pbm_of times bm) o
