-- `part::judge` meets its contract: X is judged behind count and lengths. Assumes nothing.
use mathlib.Core.Path.{sym, ◌∙◌}
use native.Mathlib.Omega.{arith}
use Rattle.refusal.proofs.Passed.{passed_on}
use Rattle.part.proofs.Called.{sizes_first, x_above, x_within}
use Rattle.part.proofs.judge.Goals as goal

pub returns-in_err-judge_sizes : goal.returns-in_err-judge_sizes
returns-in_err-judge_sizes c = passed_on _ c.from_residual.ensures.1 ∙ sizes_first _ _ _ _ (sym c.judge_sizes.ensures ∙ c.in_err-judge_sizes.was)

pub returns-then-start-gt-LAST_COLUMN : goal.returns-then-start-gt-LAST_COLUMN
returns-then-start-gt-LAST_COLUMN c = let j : _ = sym c.judge_sizes.ensures ∙ c.in_ok-judge_sizes.was in x_above _ _ _ j (omega arith)

pub returns-else-start-gt-LAST_COLUMN : goal.returns-else-start-gt-LAST_COLUMN
returns-else-start-gt-LAST_COLUMN c = let j : _ = sym c.judge_sizes.ensures ∙ c.in_ok-judge_sizes.was in x_within _ _ _ j (omega arith)
