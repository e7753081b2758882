-- `basics::Cursor::put_all` meets its contract: the items are copied to their place. Assumes nothing.
use mathlib.Core.Path.{refl}
use native.Mathlib.Omega.{arith}
use Rattle.basics.proofs.Placed.{placed_part}
use Rattle.basics.proofs.Cursor.put_all.Goals as goal

pub returns : goal.returns
returns g c = record { at = refl; items = placed_part _ _ _ _ _ (cc) (omega arith); same = refl }
