-- `part::judge_sizes` meets its contract: the count is judged before the lengths. Assumes nothing.
use mathlib.Core.Path.{sym, ◌∙◌}
use mathlib.Core.Bool.{true, false}
use native.Mathlib.Omega.{arith}
use Rattle.part.proofs.Called.{too_many, as_allowed}
use Rattle.part.proofs.judge_sizes.Goals as goal

pub returns-then-count-bits_lent : goal.returns-then-count-bits_lent
returns-then-count-bits_lent c = too_many _ _ _ (omega arith)

pub returns-then-both_allowed : goal.returns-then-both_allowed
returns-then-both_allowed c = as_allowed _ _ _ true (omega arith) (sym c.both_allowed.ensures ∙ c.if-both_allowed.true)

pub returns-else-both_allowed : goal.returns-else-both_allowed
returns-else-both_allowed c = as_allowed _ _ _ false (omega arith) (sym c.both_allowed.ensures ∙ c.if-both_allowed.false)
