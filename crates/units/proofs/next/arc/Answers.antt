-- `units::next::arc` meets its contract: each arc is a number, low bit first. Assumes nothing.
use mathlib.Core.Path.{refl}
use native.Mathlib.Omega.{arith}
use borrow.Author.Rules.{rules}
use Rattle.octets.specs.Bits.{field_bits}
use Rattle.diagram.specs.Diagram.{arc_bits}
use Rattle.units.proofs.next.arc.Goals as goal

pub enum_told-1 : goal.enum_told-1
unfolding arc_bits field_bits
enum_told-1 c = search rules

pub enum_known-to : goal.enum_known-to
unfolding arc_bits field_bits
enum_known-to c = search rules

pub enum_told-in-BW-k : goal.enum_told-in-BW-k
unfolding arc_bits field_bits
enum_told-in-BW-k c = search rules

pub enum_told-in-WB-k : goal.enum_told-in-WB-k
unfolding arc_bits field_bits
enum_told-in-WB-k c = search rules

pub enum_known-to-in-BW : goal.enum_known-to-in-BW
unfolding arc_bits field_bits
enum_known-to-in-BW c = search rules

pub enum_told-in-WW : goal.enum_told-in-WW
unfolding arc_bits field_bits
enum_told-in-WW c = search rules

pub enum_told-in-BB : goal.enum_told-in-BB
unfolding arc_bits field_bits
enum_told-in-BB c = search rules

pub enum_told-in-WB : goal.enum_told-in-WB
unfolding arc_bits field_bits
enum_told-in-WB c = search rules

pub enum_known-to-in-WB : goal.enum_known-to-in-WB
unfolding arc_bits field_bits
enum_known-to-in-WB c = search rules

pub enum_told-in-WB-k-2 : goal.enum_told-in-WB-k-2
unfolding arc_bits field_bits
enum_told-in-WB-k-2 c = search rules

pub enum_told-in-BW-k-2 : goal.enum_told-in-BW-k-2
unfolding arc_bits field_bits
enum_told-in-BW-k-2 c = search rules

pub enum_known-to-in-WB-2 : goal.enum_known-to-in-WB-2
unfolding arc_bits field_bits
enum_known-to-in-WB-2 c = search rules

pub enum_told-in-WW-s : goal.enum_told-in-WW-s
unfolding arc_bits field_bits
enum_told-in-WW-s c = search rules

pub enum_told-in-BB-s : goal.enum_told-in-BB-s
unfolding arc_bits field_bits
enum_told-in-BB-s c = search rules

pub returns-in-BW-k : goal.returns-in-BW-k
unfolding arc_bits field_bits
returns-in-BW-k c = (rw (c.in-BW.is, c.in-Mixed.is, c.in-BW-k.is) refl, omega arith, omega arith, omega arith)

pub returns-in-WB-k : goal.returns-in-WB-k
unfolding arc_bits field_bits
returns-in-WB-k c = (rw (c.in-BW.is, c.in-Mixed.is, c.in-WB-k.is) refl, omega arith, omega arith, omega arith)

pub returns-in-WW : goal.returns-in-WW
unfolding arc_bits field_bits
returns-in-WW c = (rw (c.in-BW.is, c.in-Solid.is, c.in-WW.is) refl, omega arith, omega arith, omega arith)

pub returns-in-BB : goal.returns-in-BB
unfolding arc_bits field_bits
returns-in-BB c = (rw (c.in-BW.is, c.in-Solid.is, c.in-BB.is) refl, omega arith, omega arith, omega arith)

pub returns-in-WB-k-2 : goal.returns-in-WB-k-2
unfolding arc_bits field_bits
returns-in-WB-k-2 c = (rw (c.in-WB.is, c.in-Mixed-to.is, c.in-WB-k-2.is) refl, omega arith, omega arith, omega arith)

pub returns-in-BW-k-2 : goal.returns-in-BW-k-2
unfolding arc_bits field_bits
returns-in-BW-k-2 c = (rw (c.in-WB.is, c.in-Mixed-to.is, c.in-BW-k-2.is) refl, omega arith, omega arith, omega arith)

pub returns-in-WW-s : goal.returns-in-WW-s
unfolding arc_bits field_bits
returns-in-WW-s c = (rw (c.in-WB.is, c.in-Solid-to.is, c.in-WW-s.is) refl, omega arith, omega arith, omega arith)

pub returns-in-BB-s : goal.returns-in-BB-s
unfolding arc_bits field_bits
returns-in-BB-s c = (rw (c.in-WB.is, c.in-Solid-to.is, c.in-BB-s.is) refl, omega arith, omega arith, omega arith)
