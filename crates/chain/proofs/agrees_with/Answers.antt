-- `chain::agrees_with` meets its contract. Assumes nothing.
use mathlib.Core.Path.{sym, ◌∙◌}
use native.Mathlib.Omega.{arith}
use Rattle.chain.proofs.Linked.{other_state, other_black, other_white, first_frame, later_frame}
use Rattle.chain.proofs.agrees_with.Goals as goal

pub returns-then-not-states_agree : goal.returns-then-not-states_agree
returns-then-not-states_agree c = other_state _ _ (sym c.states_agree.ensures ∙ c.if-not-states_agree.true)

pub returns-then-h-im : goal.returns-then-h-im
returns-then-h-im c = other_black _ _ (sym c.states_agree.ensures ∙ c.if-not-states_agree.false) c.if-h-im.true

pub returns-then-h-im-2 : goal.returns-then-h-im-2
returns-then-h-im-2 c = other_white _ _ (sym c.states_agree.ensures ∙ c.if-not-states_agree.false) (omega arith) c.if-h-im-2.true

pub returns-then-im-eq0 : goal.returns-then-im-eq0
returns-then-im-eq0 c = first_frame _ _ (sym c.states_agree.ensures ∙ c.if-not-states_agree.false) (omega arith) (omega arith) c.if-im-eq0.true

pub returns : goal.returns
returns c = rw c.x_before.ensures (later_frame _ _ (sym c.states_agree.ensures ∙ c.if-not-states_agree.false) (omega arith) (omega arith) c.if-im-eq0.false)
