-- `words_read::line_of_words` meets its contract: words and room are judged before anything is drawn. Assumes nothing.
use mathlib.Core.Path.{sym, ap, ◌∙◌}
use native.Mathlib.Omega.{arith}
use lib.Seq.{length-take-le}
use Rattle.std.specs.Prelude.{Some}
use Rattle.words_read.proofs.Lines.{wrong_answer, page_answer, more_answer, short_answer, line_answer}
use Rattle.words_read.proofs.line_of_words.Goals as goal

pub returns-then-out-lt-OCTETS_PER_LINE : goal.returns-then-out-lt-OCTETS_PER_LINE
returns-then-out-lt-OCTETS_PER_LINE c = let s : _ = c.args in
    rw c.into-then-out-lt-OCTETS_PER_LINE.ensures (short_answer _ _ (sym c.judge_line.ensures ∙ (c.in-Some-Line.is ∙ ap Some c.in-Some-Line.field-0-is)) (omega arith))

pub slice_bounds-draw_line-end-in-Some-Line : goal.slice_bounds-draw_line-end-in-Some-Line
slice_bounds-draw_line-end-in-Some-Line c = sym (length-take-le 216 c.args.out.now (omega arith))

pub draw_line-requires : goal.draw_line-requires
draw_line-requires c = (sym c.judge_line.ensures ∙ (c.in-Some-Line.is ∙ ap Some c.in-Some-Line.field-0-is), length-take-le 216 c.args.out.now (omega arith))

pub returns-in-None : goal.returns-in-None
returns-in-None c = let s : _ = c.args in
    rw c.into.ensures (wrong_answer _ _ (sym c.judge_line.ensures ∙ c.in-None.is))

pub returns-in-Some-EndOfPage : goal.returns-in-Some-EndOfPage
returns-in-Some-EndOfPage c = page_answer _ _ (sym c.judge_line.ensures ∙ (c.in-Some-EndOfPage.is ∙ ap Some c.in-Some-EndOfPage.field-0-is))

pub returns-in-Some-More : goal.returns-in-Some-More
returns-in-Some-More c = more_answer _ _ (sym c.judge_line.ensures ∙ (c.in-Some-More.is ∙ ap Some c.in-Some-More.field-0-is))

pub returns-else-out-lt-OCTETS_PER_LINE : goal.returns-else-out-lt-OCTETS_PER_LINE
returns-else-out-lt-OCTETS_PER_LINE c = line_answer _ _ (sym c.judge_line.ensures ∙ (c.in-Some-Line.is ∙ ap Some c.in-Some-Line.field-0-is)) (omega arith) c.draw_line.ensures
