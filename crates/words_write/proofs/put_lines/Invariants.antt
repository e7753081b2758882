use Rattle.words_write.specs.Written.{words_from}
use Rattle.basics.proofs.Writing.{Left}
use Rattle.words_write.proofs.put_lines.Given as goal

abbrev pub invariant-loop-r : goal.invariant-loop-r
invariant-loop-r l = Left (words_from l.bitmap l.from l.end) l.initial.out (words_from l.bitmap l.r l.end) l.out
