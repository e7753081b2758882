-- `vector_reads::show_appendix` is safe: the file has 458 octets. Assumes nothing.
use mathlib.Core.Path.{sym}
use native.Mathlib.Omega.{arith}
use lib.Seq.{length-take-le}
use Rattle.vector_reads.proofs.show_appendix.Goals as goal

pub slice_bounds-show_file-end-2 : goal.slice_bounds-show_file-end-2
slice_bounds-show_file-end-2 g c = sym (length-take-le 380 c.with_end-file.result (omega arith))

pub slice_bounds-show_file-end-5 : goal.slice_bounds-show_file-end-5
slice_bounds-show_file-end-5 g c = sym (length-take-le 382 c.with_end-file.result (omega arith))
