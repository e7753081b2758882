use mathlib.Core.Path.{◌≡◌}
use Prim.Native.Nat.{◌+◌, ◌-◌}
use Rattle.octets.specs.Bits.{put_bits, field_bits}
use Rattle.packing.proofs.put.Given as goal

abbrev pub invariant-loop-i : goal.invariant-loop-i
invariant-loop-i l = put_bits l.s l.i (field_bits (l.at + l.n - l.i) l.w) ≡ put_bits l.initial.s l.at (field_bits l.n l.v)
