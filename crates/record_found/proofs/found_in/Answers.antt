-- `record_found::found_in` meets its contract. Assumes nothing.
use mathlib.Core.Path.{refl}
use Rattle.record_found.proofs.found_in.Goals as goal

pub returns-in-Ok : goal.returns-in-Ok
returns-in-Ok c = rw c.in-Ok.is refl

pub returns-in-Err : goal.returns-in-Err
returns-in-Err c = rw (c.in-Err.is, c.at_record.ensures, c.into.ensures) refl
