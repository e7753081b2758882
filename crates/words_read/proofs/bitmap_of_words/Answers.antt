-- `words_read::bitmap_of_words` meets its contract: words, lines and room are judged before anything is drawn. Assumes nothing.
use mathlib.Core.Path.{sym, ◌∙◌}
use native.Mathlib.Omega.{arith}
use Prim.Native.Nat.{◌≤◌}
use lib.Seq.{length-take-le}
use Rattle.bitmap.specs.Validity.{most_lines}
use Rattle.bitmap.proofs.Pels.{most_small}
use Rattle.bitmap.proofs.Taken.{lines_are}
use Rattle.words_read.proofs.Answers.{invalid_drawn, many_drawn, short_drawn, whole_drawn}
use Rattle.words_read.proofs.bitmap_of_words.Goals.{Else-not-lines_allowed}
use Rattle.words_read.proofs.bitmap_of_words.Goals as goal

few : (c : Else-not-lines_allowed) → c.in-Some.page.lines ≤ most_lines
few c = (lines_are _ (sym c.lines_allowed.ensures ∙ c.if-not-lines_allowed.false)).few

pub returns-then-not-lines_allowed : goal.returns-then-not-lines_allowed
returns-then-not-lines_allowed c = let s : _ = c.args in
    rw c.into-then-not-lines_allowed.ensures (many_drawn _ _ (sym c.judge.ensures ∙ c.in-Some.is) (sym c.lines_allowed.ensures ∙ c.if-not-lines_allowed.true))

pub overflow_mul-octets : goal.overflow_mul-octets
overflow_mul-octets c = omega (arith, few (goal.at.overflow_mul-octets c).Else-not-lines_allowed, most_small)

pub overflow_add-octets : goal.overflow_add-octets
overflow_add-octets c = omega (arith, few (goal.at.overflow_add-octets c).Else-not-lines_allowed, most_small)

pub returns-then-octets-out : goal.returns-then-octets-out
returns-then-octets-out c = let s : _ = c.args in
    rw c.into-then-octets-out.ensures (short_drawn _ _ (sym c.judge.ensures ∙ c.in-Some.is)
    (sym c.lines_allowed.ensures ∙ c.if-not-lines_allowed.false) (omega arith))

pub slice_bounds-draw-end-2 : goal.slice_bounds-draw-end-2
slice_bounds-draw-end-2 c = sym (length-take-le _ _ (omega arith))

pub draw-requires : goal.draw-requires
draw-requires c = (sym c.judge.ensures ∙ c.in-Some.is, few (goal.at.draw-requires c).Else-not-lines_allowed, length-take-le _ _ (omega arith))

pub returns-in_default : goal.returns-in_default
returns-in_default c = let s : _ = c.args in
    rw c.into.ensures (invalid_drawn _ _ (sym c.judge.ensures ∙ c.in_default.is))

pub returns : goal.returns
returns c = whole_drawn _ _ (sym c.judge.ensures ∙ c.in-Some.is)
    (sym c.lines_allowed.ensures ∙ c.if-not-lines_allowed.false) (omega arith) c.draw.ensures
