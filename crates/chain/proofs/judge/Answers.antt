-- `chain::judge` meets its contract: each test in its order. Assumes nothing.
use mathlib.Core.Path.{sym, ◌∙◌}
use Rattle.refusal.proofs.Passed.{passed_on}
use Rattle.chain.proofs.Linked.{unfit_part, after_closing, as_agrees}
use Rattle.chain.proofs.judge.Goals as goal

pub returns-then-is_closed : goal.returns-then-is_closed
returns-then-is_closed c = after_closing _ _ _ (sym c.judge_sizes.ensures ∙ c.in_ok-judge_sizes.was) (sym c.is_closed.ensures ∙ c.if-is_closed.true)

pub returns-in_err-judge_sizes : goal.returns-in_err-judge_sizes
returns-in_err-judge_sizes c = passed_on _ c.from_residual.ensures.1 ∙ unfit_part _ _ _ (sym c.judge_sizes.ensures ∙ c.in_err-judge_sizes.was)

pub returns-then-agrees_with : goal.returns-then-agrees_with
returns-then-agrees_with c = as_agrees _ _ _ _ (sym c.judge_sizes.ensures ∙ c.in_ok-judge_sizes.was) (sym c.is_closed.ensures ∙ c.if-is_closed.false) (sym c.agrees_with.ensures ∙ c.if-agrees_with.true)

pub returns-else-agrees_with : goal.returns-else-agrees_with
returns-else-agrees_with c = as_agrees _ _ _ _ (sym c.judge_sizes.ensures ∙ c.in_ok-judge_sizes.was) (sym c.is_closed.ensures ∙ c.if-is_closed.false) (sym c.agrees_with.ensures ∙ c.if-agrees_with.false)
