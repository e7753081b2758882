use Rattle.bitmap.specs.Form.{columns_of}
use Rattle.writer_file.proofs.Pages.{columns_left, Writing}
use Rattle.writer_file.proofs.write_frames.Given as goal

abbrev pub invariant-loop-p : goal.invariant-loop-p
invariant-loop-p l = Writing l.checker.setting l.most (columns_of l.bitmap) l.initial.out l.i l.head l.out

abbrev pub decreases-loop-p : goal.decreases-loop-p
decreases-loop-p l = columns_left l.columns l.head
