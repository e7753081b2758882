-- `position::position_after` meets its contract. Assumes nothing.
use mathlib.Core.Path.{refl}
use Rattle.position.specs.Position.{position_after}
use Rattle.position.proofs.position_after.Goals as goal

pub returns : goal.returns
unfolding position_after
returns c = refl
