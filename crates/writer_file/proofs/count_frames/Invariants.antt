use Rattle.bitmap.specs.Form.{columns_of}
use Rattle.writer_file.proofs.Pages.{Counting, columns_left}
use Rattle.writer_file.proofs.count_frames.Given as goal

abbrev pub invariant-loop-p : goal.invariant-loop-p
invariant-loop-p l = Counting l.most (columns_of l.bitmap) l.n l.head

abbrev pub decreases-loop-p : goal.decreases-loop-p
decreases-loop-p l = columns_left l.columns l.head
