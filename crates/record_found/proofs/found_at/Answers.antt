-- `record_found::found_at` meets its contract: the record that is due, by its kind. Assumes nothing.
use mathlib.Core.Path.{◌≡◌, sym, ap, ◌∙◌}
use native.Mathlib.Omega.{arith}
use Rattle.records.specs.declared.Kind.TheVariants.{Frame}
use Rattle.records.specs.Records.{due_at}
use Rattle.records.proofs.Order.{due_room}
use Rattle.record_found.proofs.Steps.{found_due_lem}
use Rattle.record_found.proofs.found_at.Goals.{In-Ok-Frame}
use Rattle.record_found.proofs.found_at.Goals as goal
use Rattle.std.specs.Prelude.{Ok}

-- a frame of this kind is due
due : (c : In-Ok-Frame) →
    let a : _ = c.args in due_at a.file.now a.at ≡ Ok (Frame c.in-Ok-Frame.frame)
due c = sym c.due_at.ensures ∙ c.in-Ok-Frame.is ∙ ap Ok c.in-Ok-Frame.field-0-is

pub frame_of-requires : goal.frame_of-requires
frame_of-requires c = omega (arith, due_room _ _ (Frame _) (due (goal.at.frame_of-requires c).In-Ok-Frame))

pub returns-in-Err : goal.returns-in-Err
returns-in-Err c = rw (c.at_record.ensures, c.into.ensures) (found_due_lem _ _ _ (sym c.due_at.ensures ∙ c.in-Err.is))

pub returns-in-Ok-End : goal.returns-in-Ok-End
returns-in-Ok-End c = found_due_lem _ _ _ (sym c.due_at.ensures ∙ c.in-Ok-End.is ∙ ap Ok c.in-Ok-End.field-0-is)

pub returns-in-Ok-Frame : goal.returns-in-Ok-Frame
returns-in-Ok-Frame c = c.found_in.ensures ∙ rw c.frame_of.ensures (found_due_lem _ _ _ (due (goal.at.returns-in-Ok-Frame c).In-Ok-Frame))
