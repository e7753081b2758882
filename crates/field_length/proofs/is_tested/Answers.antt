-- `field_length::is_tested` meets its contract. Assumes nothing.
use mathlib.Core.Path.{refl}
use Rattle.field_length.proofs.is_tested.Goals as goal

pub returns-in-First : goal.returns-in-First
returns-in-First c = rw c.in-First.is refl

pub returns-in-Later : goal.returns-in-Later
returns-in-Later c = rw c.in-Later.is refl
