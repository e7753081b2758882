-- `reader_progress::with_set_up` meets its contract. Assumes nothing.
use mathlib.Core.Path.{refl}
use Rattle.reader_progress.proofs.with_set_up.Goals as goal

pub returns : goal.returns
returns c = rw (c.after_set_up.ensures, c.first_settings.ensures) refl
