-- `field_length::after_ones` meets its contract. Assumes nothing.
use borrow.Author.Rules.{rules}
use native.Mathlib.Omega.{arith}
use Rattle.field_length.specs.FieldLength.{length_after_ones}
use Rattle.field_length.proofs.after_ones.Goals as goal

pub overflow_add-result : goal.overflow_add-result
unfolding length_after_ones
overflow_add-result c = search rules

pub returns-then-n-lt7 : goal.returns-then-n-lt7
unfolding length_after_ones
returns-then-n-lt7 c = omega arith

pub returns-else-n-lt7 : goal.returns-else-n-lt7
unfolding length_after_ones
returns-else-n-lt7 c = omega arith
