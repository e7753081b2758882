use Rattle.bitmap.specs.Form.{columns_of}
use Rattle.writer_fill.proofs.Filled.{Filling, left_of}
use Rattle.writer_fill.proofs.fill.Given as goal

abbrev pub invariant-loop-head : goal.invariant-loop-head
invariant-loop-head l = Filling l.most l.head (columns_of l.bitmap) l.p l.data

abbrev pub decreases-loop-head : goal.decreases-loop-head
decreases-loop-head l = left_of l.columns l.head l.p
