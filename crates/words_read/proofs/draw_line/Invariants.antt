use Rattle.words_read.proofs.Lines.{LineDrawn}
use Rattle.words_read.proofs.draw_line.Given as goal

abbrev pub invariant-loop-word : goal.invariant-loop-word
invariant-loop-word l = LineDrawn l.words l.word-index l.at l.out
