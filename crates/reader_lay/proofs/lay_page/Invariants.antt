use Rattle.reader_lay.proofs.Lays.{Before}
use Rattle.reader_lay.proofs.lay_page.Given as goal

abbrev pub invariant-loop-k : goal.invariant-loop-k
invariant-loop-k l = Before l.file l.records l.k l.im l.initial.out l.out
