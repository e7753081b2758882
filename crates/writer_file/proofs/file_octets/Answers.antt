-- `writer_file::file_octets` meets its contract. Assumes nothing.
use mathlib.Core.Path.{refl}
use native.Mathlib.Omega.{arith}
use Rattle.writer_file.proofs.file_octets.Goals as goal

pub count_frames-requires : goal.count_frames-requires
count_frames-requires c = c.requires

pub overflow_add-result : goal.overflow_add-result
overflow_add-result c = omega (arith, c.count_frames.ensures.1)

pub overflow_mul-result : goal.overflow_mul-result
overflow_mul-result c = omega (arith, c.count_frames.ensures.1)

pub overflow_add-result-2 : goal.overflow_add-result-2
overflow_add-result-2 c = omega (arith, c.count_frames.ensures.1)

pub returns : goal.returns
returns c = rw c.count_frames.ensures.0 refl
