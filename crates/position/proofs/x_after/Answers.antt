-- `position::x_after` meets its contract. Assumes nothing.
use borrow.Author.Rules.{rules}
use native.Mathlib.Omega.{arith}
use Rattle.position.specs.Position.{x_after}
use Rattle.position.proofs.x_after.Goals as goal

pub overflow_add-on : goal.overflow_add-on
unfolding x_after
overflow_add-on c = search rules

pub returns-then-on-lt-PELS_PER_LINE : goal.returns-then-on-lt-PELS_PER_LINE
unfolding x_after
returns-then-on-lt-PELS_PER_LINE c = omega arith

pub returns-else-on-lt-PELS_PER_LINE : goal.returns-else-on-lt-PELS_PER_LINE
unfolding x_after
returns-else-on-lt-PELS_PER_LINE c = omega arith
