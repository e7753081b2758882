-- `c_check::check_setting_of` meets its contract: number by number. Assumes nothing.
use mathlib.Core.Path.{refl}
use Rattle.c_check.proofs.check_setting_of.Goals as goal

pub returns : goal.returns
returns c = rw c.order_of-order.ensures refl
