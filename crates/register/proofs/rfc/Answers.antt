-- `register::rfc` meets its contract: the recorded setting, compared and in the other order. Assumes nothing.
use mathlib.Core.Path.{refl}
use Rattle.register.proofs.rfc.Goals as goal

pub returns : goal.returns
returns c = rw c.recorded-c.ensures refl
