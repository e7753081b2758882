-- `diagram::with_length` meets its contract. Assumes nothing.
use mathlib.Core.Path.{refl}
use Rattle.diagram.proofs.with_length.Goals as goal

pub returns-in-WW : goal.returns-in-WW
returns-in-WW c = rw c.in-WW.is refl

pub returns-in-BB : goal.returns-in-BB
returns-in-BB c = rw c.in-BB.is refl
