-- `basics::Cursor::put` meets its contract. Assumes nothing.
use mathlib.Core.Path.{refl}
use native.Mathlib.Omega.{arith}
use Rattle.basics.proofs.Placed.{placed_one}
use Rattle.basics.proofs.Cursor.put.Goals as goal

pub returns : goal.returns
returns g c = record { at = refl; items = placed_one _ _ _ (omega arith); same = refl }
