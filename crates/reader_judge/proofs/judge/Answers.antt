-- `reader_judge::judge` meets its contract: what is judged from a record on is what is judged from the start on. Assumes nothing.
use mathlib.Core.Path.{refl, sym, ◌∙◌, ap}
use native.Mathlib.Omega.{arith}
use Rattle.refusal.proofs.Replies.{refused_with}
use Rattle.std.specs.Prelude.{Ok}
use Rattle.reader_judge.proofs.Files.{judging_first, judging_small, judging_next, judging_less, judged_refused, judged_page}
use Rattle.reader_judge.proofs.judge.Goals as goal

pub loop-fault-init : goal.loop-fault-init
loop-fault-init c = rw c.first_progress-p.ensures (judging_first _ _)

pub record_next-requires : goal.record_next-requires
record_next-requires c = judging_small c.loop-fault.invariant c.requires

pub returns-in-Err : goal.returns-in-Err
returns-in-Err c = refused_with c.at_record.ensures refl ∙ sym (judged_refused _ _ _ _ (sym c.record_next.ensures ∙ c.in-Err.is)) ∙ c.loop-fault.invariant.same

pub returns-in-Ok-Page : goal.returns-in-Ok-Page
returns-in-Ok-Page c = sym (judged_page _ _ _ _ (sym c.record_next.ensures ∙ c.in-Ok-Page.is ∙ ap Ok c.in-Ok-Page.field-0-is)) ∙ c.loop-fault.invariant.same

pub overflow_add-k : goal.overflow_add-k
overflow_add-k c = omega (arith, judging_small c.loop-fault.invariant c.requires)

pub loop-fault-smaller : goal.loop-fault-smaller
loop-fault-smaller c = omega (arith, judging_less c.loop-fault.invariant (sym c.record_next.ensures ∙ c.in-Ok-On.is ∙ ap Ok c.in-Ok-On.field-0-is))

pub loop-fault-preserved : goal.loop-fault-preserved
loop-fault-preserved c = judging_next c.loop-fault.invariant (sym c.record_next.ensures ∙ c.in-Ok-On.is ∙ ap Ok c.in-Ok-On.field-0-is)
