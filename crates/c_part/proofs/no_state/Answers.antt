-- `c_part::no_state` meets its contract. Assumes nothing.
use mathlib.Core.Path.{sym, ap, ◌∙◌}
use Rattle.c_part.specs.Part.{unstated}
use Rattle.c_part.proofs.no_state.Goals as goal

pub returns-in-Err : goal.returns-in-Err
returns-in-Err c = c.into.ensures.0 ∙ ap unstated (sym c.in-Err.is ∙ c.judge.ensures)

pub returns-in-Ok : goal.returns-in-Ok
returns-in-Ok c = c.into-in-Ok.ensures.0 ∙ ap unstated (sym c.in-Ok.is ∙ c.judge.ensures)
