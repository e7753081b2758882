-- `register::table` meets its contract: the entries written so far are right. Assumes nothing.
use mathlib.Core.Path.{◌∙◌}
use native.Mathlib.Omega.{arith}
use lib.ListN.{length-set}
use Rattle.basics.proofs.Front.{filled_more}
use Rattle.register.specs.Register.{table_entry}
use Rattle.register.proofs.table.Goals as goal

pub loop-i-preserved : goal.loop-i-preserved
unfolding table_entry
loop-i-preserved c =
    let l : _ = c.loop-i in
    (length-set l.entry-items l.i _ ∙ l.invariant.0, filled_more (table_entry _) l.entry-items l.i _ (omega arith) l.invariant.1 c.bits.ensures.0)
