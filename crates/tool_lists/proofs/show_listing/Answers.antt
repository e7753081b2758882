-- `tool_lists::show_listing` is safe and ends: it goes from record to record as the reader does. Assumes nothing.
use mathlib.Core.Path.{sym, ap, ◌∙◌}
use native.Mathlib.Omega.{arith}
use Rattle.std.specs.Prelude.{Ok}
use Rattle.reader_judge.proofs.Files.{judging_first, judging_small, judging_next, judging_less}
use Rattle.tool_lists.proofs.show_listing.Goals as goal

pub loop-fault-init : goal.loop-fault-init
loop-fault-init c = rw c.first_progress-p.ensures (judging_first _ _)

pub record_next-requires : goal.record_next-requires
record_next-requires c = judging_small c.loop-fault.invariant c.requires

pub overflow_add-k : goal.overflow_add-k
overflow_add-k c = omega (arith, judging_small c.loop-fault.invariant c.requires)

pub loop-fault-smaller : goal.loop-fault-smaller
loop-fault-smaller c = omega (arith, judging_less c.loop-fault.invariant (sym c.record_next.ensures ∙ c.in-Ok-On.is ∙ ap Ok c.in-Ok-On.field-0-is))

pub loop-fault-preserved : goal.loop-fault-preserved
loop-fault-preserved c = judging_next c.loop-fault.invariant (sym c.record_next.ensures ∙ c.in-Ok-On.is ∙ ap Ok c.in-Ok-On.field-0-is)
