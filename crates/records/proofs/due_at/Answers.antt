-- `records::due_at` meets its contract. Assumes nothing.
use mathlib.Core.Path.{◌∙◌}
use native.Mathlib.Omega.{arith}
use Rattle.records.proofs.Order.{due_missing, due_pair}
use Rattle.records.proofs.due_at.Goals as goal

pub returns-then-file-lt2 : goal.returns-then-file-lt2
returns-then-file-lt2 c = due_missing _ _ (omega (arith, c.if-file-lt2.true))

pub returns-then-file-at : goal.returns-then-file-at
returns-then-file-at c = due_missing _ _ (omega (arith, c.if-file-at.true, c.if-file-lt2.false))

pub returns : goal.returns
returns c = rw (c.octet.ensures, c.octet-2.ensures) at c.pair.ensures ∙ due_pair _ _ (omega (arith, c.if-file-at.false, c.if-file-lt2.false))
