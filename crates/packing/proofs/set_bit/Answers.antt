-- `packing::set_bit` meets its contract. Assumes nothing.
use mathlib.Core.Path.{sym, ap}
use Prim.Native.Nat.{◌/◌}
use lib.ListN.{set}
use lib.Seq.{set_out}
use Rattle.octets.specs.Bits.{set_bit}
use Rattle.octets.proofs.Fields.{num_bit}
use Rattle.packing.proofs.set_bit.Goals as goal

pub returns-then-o-s : goal.returns-then-o-s
unfolding set_bit
returns-then-o-s c =
    let a : _ = c.args in
    rw (num_bit a.b c.requires) (ap (set a.s.now (a.i / 8)) c.with_bit.ensures)

pub returns-else-o-s : goal.returns-else-o-s
unfolding set_bit
returns-else-o-s c = sym (set_out _ _ _ c.if-o-s.false)
