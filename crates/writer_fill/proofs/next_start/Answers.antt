-- `writer_fill::next_start` meets its contract. Assumes nothing.
use mathlib.Core.Path.{refl}
use Rattle.writer_fill.proofs.next_start.Goals as goal

pub returns : goal.returns
returns c = rw c.state_of.ensures refl
