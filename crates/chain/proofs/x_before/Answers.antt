-- `chain::x_before` meets its contract. Assumes nothing.
use mathlib.Core.Path.{refl}
use Rattle.chain.proofs.x_before.Goals as goal

pub returns : goal.returns
returns c = rw (c.last_x.ensures, c.advance.ensures, c.open_in.ensures.0) refl
