use mathlib.Core.Path.{◌≡◌}
use Prim.Native.Nat.{◌+◌, ◌-◌, ◌*◌}
use Rattle.octets.specs.Bits.{put_bits, bits_from}
use Rattle.packing.proofs.copy_bits.Given as goal

abbrev pub invariant-loop-i : goal.invariant-loop-i
invariant-loop-i l = put_bits l.s (l.at + 8 * l.i) (bits_from l.from (8 * l.i) (l.n - 8 * l.i)) ≡ put_bits l.initial.s l.at (bits_from l.from 0 l.n)

abbrev pub invariant-loop-k : goal.invariant-loop-k
invariant-loop-k l = put_bits l.s (l.at + l.k) (bits_from l.from l.k (l.n - l.k)) ≡ put_bits l.initial.s (l.at + l.initial.k) (bits_from l.from l.initial.k (l.n - l.initial.k))
