-- `part_next::fetch` meets its contract. Assumes nothing.
use mathlib.Core.Path.{◌∙◌}
use native.Mathlib.Omega.{arith}
use Rattle.octets.proofs.Window.{field_window}
use Rattle.part_next.proofs.fetch.Goals as goal

pub first_bits-requires : goal.first_bits-requires
first_bits-requires c = omega (arith, c.requires)

pub returns : goal.returns
returns c = (c.first_bits.ensures.0 ∙ field_window _ _ _ _ c.octet_at.ensures (omega (arith, c.requires)), c.first_bits.ensures.1)
