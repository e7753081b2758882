-- `units::next::due_in` meets its contract. Assumes nothing.
use mathlib.Core.Path.{refl}
use Rattle.units.proofs.next.due_in.Goals as goal

pub returns-in-Mixed : goal.returns-in-Mixed
returns-in-Mixed c = rw c.in-Mixed.is refl

pub returns-in-Solid : goal.returns-in-Solid
returns-in-Solid c = rw c.in-Solid.is refl
