-- `writer_file::header_for` meets its contract. Assumes nothing.
use mathlib.Core.Path.{refl}
use Rattle.writer_file.proofs.header_for.Goals as goal

pub returns : goal.returns
returns c = rw (c.last_x.ensures, c.position_after.ensures) refl
