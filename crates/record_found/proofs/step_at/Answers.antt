-- `record_found::step_at` meets its contract. Assumes nothing.
use mathlib.Core.Bool.{true}
use mathlib.Core.Path.{◌≡◌, sym, ◌∙◌, ap}
use native.Mathlib.Omega.{arith}
use Rattle.std.specs.Prelude.{Ok}
use Rattle.register.specs.Setting.{allowed_check}
use Rattle.register.proofs.Setting.{made_allowed}
use Rattle.record_found.specs.Found.{found_at}
use Rattle.record_found.proofs.Steps.{found_room, step_allowed, step_not_allowed}
use Rattle.record_found.proofs.step_at.Goals.{After-found_at}
use Rattle.record_found.proofs.step_at.Goals as goal

-- the check setting is allowed
is : (c : After-found_at) → allowed_check c.args.c ≡ true
is c = made_allowed c.in-Some.checker c.in-Some.ensures

found : (c : After-found_at) → c.found_at.result ≡ found_at c.args.c c.args.file.now c.args.at
found c = rw (c.in-Some.ensures) at c.found_at.ensures

pub returns-in_default : goal.returns-in_default
returns-in_default c = rw c.into.ensures (step_not_allowed _ _ _ (c.in_default.ensures))

pub overflow_add-result : goal.overflow_add-result
overflow_add-result c = let f = found (goal.at.overflow_add-result c).After-found_at in record { fits = omega (arith, found_room _ _ _ (sym f ∙ c.in-Ok-Record.is ∙ ap Ok c.in-Ok-Record.field-0-is)) }

pub returns-in-Ok-Record : goal.returns-in-Ok-Record
returns-in-Ok-Record c = let p = (goal.at.returns-in-Ok-Record c).After-found_at in step_allowed _ _ _ (is p) (sym (c.in-Ok-Record.is ∙ ap Ok c.in-Ok-Record.field-0-is) ∙ found p)

pub returns-in-Ok-End : goal.returns-in-Ok-End
returns-in-Ok-End c = let p = (goal.at.returns-in-Ok-End c).After-found_at in step_allowed _ _ _ (is p) (sym (c.in-Ok-End.is ∙ ap Ok c.in-Ok-End.field-0-is) ∙ found p)

pub returns-in-Err : goal.returns-in-Err
returns-in-Err c = let p = (goal.at.returns-in-Err c).After-found_at in step_allowed _ _ _ (is p) (sym c.in-Err.is ∙ found p)
