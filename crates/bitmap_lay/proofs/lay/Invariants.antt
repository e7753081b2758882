use Rattle.bitmap_lay.proofs.Lays.{Midway}
use Rattle.bitmap_lay.proofs.lay.Given as goal

abbrev pub invariant-loop-left : goal.invariant-loop-left
invariant-loop-left l = Midway l.initial.next l.next l.n l.left l.pels l.initial.out l.out

abbrev pub decreases-loop-left : goal.decreases-loop-left
decreases-loop-left l = l.left
