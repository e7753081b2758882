-- `vector_reads::show_whole` is safe: the file has 230 octets. Assumes nothing.
use mathlib.Core.Path.{sym}
use native.Mathlib.Omega.{arith}
use lib.Seq.{length-take-le}
use Rattle.vector_reads.proofs.show_whole.Goals as goal

pub slice_bounds-show_file-end-5 : goal.slice_bounds-show_file-end-5
slice_bounds-show_file-end-5 g c = sym (length-take-le 229 c.args.file (omega arith))
