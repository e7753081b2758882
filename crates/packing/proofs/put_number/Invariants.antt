use mathlib.Core.Path.{◌≡◌}
use Prim.Native.Nat.{◌+◌, ◌-◌}
use Rattle.octets.specs.Bits.{put_bits, number_bits}
use Rattle.packing.proofs.put_number.Given as goal

abbrev pub invariant-loop-k : goal.invariant-loop-k
invariant-loop-k l = put_bits l.s (l.at + l.k) (number_bits (l.n - l.k) l.v) ≡ put_bits l.initial.s l.at (number_bits l.n l.v)
