-- `writer::write_page` meets its contract. Assumes nothing.
use mathlib.Core.Path.{refl, ◌∙◌}
use Rattle.writer.proofs.write_page.Goals as goal

pub returns : goal.returns
returns c = c.write_numbered.ensures ∙ rw c.settings_number.ensures refl
