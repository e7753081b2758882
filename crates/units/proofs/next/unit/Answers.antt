-- `units::next::unit` meets its contract, by what is due. Assumes nothing.
use Rattle.units.proofs.next.unit.Goals as goal

pub returns-in-Move : goal.returns-in-Move
returns-in-Move c = rw c.in-Move.is c.moved.ensures

pub returns-in-Word : goal.returns-in-Word
returns-in-Word c = rw c.in-Word.is c.worded.ensures
