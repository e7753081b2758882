-- `words_read::draw_word` meets its contract. Assumes nothing.
use native.Mathlib.Omega.{arith}
use Rattle.words_read.proofs.Taking.{is_zero, not_zero, size_same, drawn_end, moved_by, inked_is}
use Rattle.words_read.proofs.draw_word.Goals as goal

pub returns-then-word-eq0 : goal.returns-then-word-eq0
returns-then-word-eq0 c = let s : _ = c in drawn_end s.args.pen s.args.out.now (is_zero s.ranges.word c.if-word-eq0.true)

pub draw_run-requires : goal.draw_run-requires
draw_run-requires c = let s : _ = c in omega (arith, size_same s.ranges.word)

pub shape_of-out : goal.shape_of-out
shape_of-out c = c.draw_run.auto.out

pub returns : goal.returns
returns c = let s : _ = c in (
  moved_by s.args.pen s.args.word s.ranges.word (not_zero s.args.word c.if-word-eq0.false) c.draw_run.ensures.0,
  inked_is _ s.args.word s.ranges.word c.draw_run.ensures.1,
)
