-- `reader_progress::first_progress` meets its contract. Assumes nothing.
use mathlib.Core.Path.{refl}
use Rattle.reader_progress.proofs.first_progress.Goals as goal

pub returns : goal.returns
returns c = rw c.blank_image.ensures refl
