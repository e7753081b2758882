-- `words_write::words_of_bitmap` meets its contract: the bitmap and the room are judged before anything is written. Assumes nothing.
use mathlib.Core.Path.{◌≡◌, refl, sym, ◌∙◌}
use native.Mathlib.Omega.{arith}
use Rattle.refusal.specs.Reply.{valid}
use Rattle.bitmap.specs.Validity.{bitmap_validity}
use Rattle.bitmap.proofs.Taken.{legal}
use Rattle.refusal.proofs.Passed.{passed_on}
use Rattle.words.proofs.Answers.{invalid_words}
use Rattle.words_write.proofs.Writes.{short_all, whole_all}
use Rattle.words_write.proofs.words_of_bitmap.Goals.{After-lines}
use Rattle.words_write.proofs.words_of_bitmap.Goals as goal

taken : (c : After-lines) → bitmap_validity c.args.bitmap.now ≡ valid
taken c = sym c.judge.ensures ∙ c.in_ok-judge.was

pub write-requires : goal.write-requires
write-requires c = let l : _ = legal _ (taken (goal.at.write-requires c).After-lines) in
    let n : _ = c.lines.ensures in
    (omega arith, n.1, omega (arith, l.size, n.0), omega arith)

pub returns-in_err-judge : goal.returns-in_err-judge
returns-in_err-judge c = rw (passed_on _ c.from_residual.ensures.1) (invalid_words _ _ (sym c.judge.ensures ∙ c.in_err-judge.was))

pub returns-in_err-n : goal.returns-in_err-n
returns-in_err-n c = let w : _ = rw c.in_err-n.was at c.write.ensures in
    rw (passed_on _ c.from_residual-in_err-n.ensures.1, w.0, w.2) (short_all _ c.lines.ensures.0 (taken (goal.at.returns-in_err-n c).After-lines) refl _ (omega (arith, w.1)))

pub returns : goal.returns
returns c = let w : _ = rw c.in_ok-n.was at c.write.ensures in
    whole_all _ c.lines.ensures.0 (taken (goal.at.returns c).After-lines) w.0 _ (omega (arith, w.1)) w.2
