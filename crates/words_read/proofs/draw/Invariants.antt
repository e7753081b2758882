use Rattle.words_read.proofs.Draws.{Begun}
use Rattle.words_read.proofs.draw.Given as goal

abbrev pub invariant-loop-i : goal.invariant-loop-i
invariant-loop-i l = Begun l.words l.i l.pen l.out
