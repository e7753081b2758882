-- `part_notes::note` meets its contract. Assumes nothing.
use mathlib.Core.Path.{refl}
use Rattle.part_notes.proofs.note.Goals as goal

pub returns : goal.returns
returns c = (rw c.x_after.ensures refl, rw c.entry.ensures refl)
