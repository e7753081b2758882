-- `units::next::way_out` meets its contract. Assumes nothing.
use mathlib.Core.Path.{refl}
use native.Mathlib.Omega.{arith}
use borrow.Author.Rules.{rules}
use Rattle.octets.specs.Bits.{field_bits}
use Rattle.diagram.specs.Diagram.{arc_bits}
use Rattle.units.proofs.next.way_out.Goals as goal

pub enum_told-1 : goal.enum_told-1
unfolding arc_bits field_bits
enum_told-1 c = search rules

pub enum_told-in-Mixed : goal.enum_told-in-Mixed
unfolding arc_bits field_bits
enum_told-in-Mixed c = search rules

pub returns-in-Solid : goal.returns-in-Solid
unfolding arc_bits field_bits
returns-in-Solid c = (rw c.in-Solid.is refl, omega arith)

pub returns-in-Mixed : goal.returns-in-Mixed
unfolding arc_bits field_bits
returns-in-Mixed c = (rw c.in-Mixed.is refl, omega arith)
