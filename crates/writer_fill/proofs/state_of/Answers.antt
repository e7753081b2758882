-- `writer_fill::state_of` meets its contract. Assumes nothing.
use mathlib.Core.Path.{refl}
use Rattle.writer_fill.proofs.state_of.Goals as goal

pub returns-in-Move : goal.returns-in-Move
returns-in-Move c = rw c.in-Move.is refl

pub returns-in-Word : goal.returns-in-Word
returns-in-Word c = rw c.in-Word.is refl
