-- `writer_fill::unfilled` meets its contract. Assumes nothing.
use mathlib.Core.Path.{refl}
use Rattle.writer_fill.proofs.unfilled.Goals as goal

pub returns : goal.returns
returns c = rw c.due_in.ensures refl
