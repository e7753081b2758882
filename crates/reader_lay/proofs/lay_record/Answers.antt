-- `reader_lay::lay_record` meets its contract, kind by kind: only a data record lays columns. Assumes nothing.
use mathlib.Core.Path.{sym, ap, ◌∙◌}
use Rattle.records.specs.declared.Kind.TheVariants.{Frame}
use Rattle.reader_lay.proofs.Lays.{due_does, nothing_laid}
use Rattle.reader_lay.proofs.lay_record.Goals as goal
use Rattle.std.specs.Prelude.{Ok}

pub lay_data-requires : goal.lay_data-requires
lay_data-requires c = let w : _ = c.in-Ok-Frame-Data in
    record { due = sym c.due_at.ensures ∙ w.is ∙ ap Ok (w.field-0-is ∙ ap Frame w.field-0-0-is); room = c.requires }

pub returns-in-Err : goal.returns-in-Err
returns-in-Err c = nothing_laid (due_does _ _ _ _ (sym c.due_at.ensures ∙ c.in-Err.is))

pub returns-in-Ok-End : goal.returns-in-Ok-End
returns-in-Ok-End c = nothing_laid (due_does _ _ _ _ (sym c.due_at.ensures ∙ c.in-Ok-End.is ∙ ap Ok c.in-Ok-End.field-0-is))

pub returns-in-Ok-Frame-SetUp : goal.returns-in-Ok-Frame-SetUp
returns-in-Ok-Frame-SetUp c = let w : _ = c.in-Ok-Frame-SetUp in
    nothing_laid (due_does _ _ _ _ (sym c.due_at.ensures ∙ w.is ∙ ap Ok (w.field-0-is ∙ ap Frame w.field-0-0-is)))
