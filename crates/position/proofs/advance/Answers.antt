-- `position::advance` meets its contract. Assumes nothing.
use native.Mathlib.Omega.{arith}
use Rattle.position.proofs.Positions.{position_of}
use Rattle.position.proofs.advance.Goals as goal

pub returns-then-column-lt-PELS_PER_LINE : goal.returns-then-column-lt-PELS_PER_LINE
returns-then-column-lt-PELS_PER_LINE c = position_of _ _ c.if-column-lt-PELS_PER_LINE.true (omega arith)

pub returns : goal.returns
returns c = position_of _ _ (omega arith) (omega arith)
