-- `words_write::words_of_lines` meets its contract: the bitmap and the room are judged before anything is written. Assumes nothing.
use mathlib.Core.Path.{◌≡◌, refl, sym, ◌∙◌}
use native.Mathlib.Omega.{arith}
use Rattle.refusal.specs.Reply.{valid}
use Rattle.bitmap.specs.Validity.{bitmap_validity}
use Rattle.bitmap.proofs.Taken.{legal}
use Rattle.refusal.proofs.Passed.{passed_on}
use Rattle.words.proofs.Answers.{invalid_lines}
use Rattle.words_write.proofs.Writes.{short_some, whole_some}
use Rattle.words_write.proofs.words_of_lines.Goals.{After-lines-lines}
use Rattle.words_write.proofs.words_of_lines.Goals as goal

taken : (c : After-lines-lines) → bitmap_validity c.args.bitmap.now ≡ valid
taken c = sym c.judge.ensures ∙ c.in_ok-judge.was

pub write-requires : goal.write-requires
write-requires c = let l : _ = legal _ (taken (goal.at.write-requires c).After-lines-lines) in
    (omega arith, omega arith, omega (arith, l.size, c.lines-lines.ensures.0), omega arith)

pub returns-in_err-judge : goal.returns-in_err-judge
returns-in_err-judge c = rw (passed_on _ c.from_residual.ensures.1) (invalid_lines _ _ _ _ (sym c.judge.ensures ∙ c.in_err-judge.was))

pub returns-in_err-words : goal.returns-in_err-words
returns-in_err-words c = let w : _ = rw c.in_err-words.was at c.write.ensures in
    rw (passed_on _ c.from_residual-in_err-words.ensures.1, w.0, w.2) (short_some _ _ _ c.lines-lines.ensures.0 c.min-first.ensures c.min.ensures (taken (goal.at.returns-in_err-words c).After-lines-lines) refl _ (omega (arith, w.1)))

pub returns : goal.returns
returns c = let w : _ = rw c.in_ok-words.was at c.write.ensures in
    whole_some _ _ _ c.lines-lines.ensures.0 c.min-first.ensures c.min.ensures (taken (goal.at.returns c).After-lines-lines) w.0 _ (omega (arith, w.1)) w.2
