-- `writer::judging::requested` meets its contract. Assumes nothing.
use mathlib.Core.Path.{sym, ◌∙◌}
use Rattle.writer.proofs.Judges.{request_columns, request_wrong, request_uncompared}
use Rattle.writer.proofs.judging.requested.Goals as goal

pub returns-then-not-allowed : goal.returns-then-not-allowed
returns-then-not-allowed c = (request_wrong _ _ (sym c.allowed.ensures ∙ c.if-not-allowed.true), tt)

pub returns-then-c : goal.returns-then-c
returns-then-c c = (c.most_columns.ensures.0 ∙ request_columns _ _ (sym c.allowed.ensures ∙ c.if-not-allowed.false) c.if-c.true, c.most_columns.ensures.1)

pub returns-else-c : goal.returns-else-c
returns-else-c c = (request_uncompared _ _ (sym c.allowed.ensures ∙ c.if-not-allowed.false) c.if-c.false, tt)
