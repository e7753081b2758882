-- `records::pair` meets its contract. Assumes nothing.
use mathlib.Core.Path.{◌∙◌}
use native.Mathlib.Omega.{arith}
use Rattle.records.proofs.Order.{pair_end, pair_not_end, pair_length, pair_set_up, pair_data, pair_neither}
use Rattle.records.proofs.pair.Goals as goal

pub returns-then-command-eq58 : goal.returns-then-command-eq58
returns-then-command-eq58 c = pair_end _ _ _ c.if-length-eq2.true c.if-command-eq58.true

pub returns-then-length-eq2 : goal.returns-then-length-eq2
returns-then-length-eq2 c = pair_not_end _ _ _ c.if-length-eq2.true c.if-command-eq58.false

pub returns-then-length-ne76 : goal.returns-then-length-ne76
returns-then-length-ne76 c = pair_length _ _ _ c.if-length-eq2.false c.if-length-ne76.true

pub returns-then-command-eq56 : goal.returns-then-command-eq56
returns-then-command-eq56 c = c.whole_record.ensures ∙ pair_set_up _ _ _ (omega arith) c.if-command-eq56.true

pub returns-then-command-eq57 : goal.returns-then-command-eq57
returns-then-command-eq57 c = c.whole_record-then-command-eq57.ensures ∙ pair_data _ _ _ (omega arith) c.if-command-eq57.true

pub returns : goal.returns
returns c = pair_neither _ _ _ (omega arith) c.if-command-eq56.false c.if-command-eq57.false
