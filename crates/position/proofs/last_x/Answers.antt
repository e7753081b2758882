-- `position::last_x` meets its contract. Assumes nothing.
use native.Mathlib.Omega.{arith}
use mathlib.Core.Path.{sym}
use Rattle.position.proofs.Positions.{index_before_lem}
use Rattle.position.proofs.last_x.Goals as goal

pub returns-else-p-eq0 : goal.returns-else-p-eq0
returns-else-p-eq0 c = sym (index_before_lem _ (omega (arith, c.if-p-eq0.false)))
