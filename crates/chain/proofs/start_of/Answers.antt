-- `chain::start_of` meets its contract. Assumes nothing.
use mathlib.Core.Path.{refl}
use Rattle.chain.proofs.start_of.Goals as goal

pub returns : goal.returns
returns c = rw c.x_before.ensures refl
