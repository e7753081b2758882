use mathlib.Core.Path.{◌≡◌}
use Prim.Native.Nat.{◌+◌, ◌-◌, ◌*◌}
use Rattle.octets.specs.Bits.{put_bits}
use Rattle.frame.specs.Layout.{alternating}
use Rattle.frame_build.proofs.alternate.Given as goal

abbrev pub invariant-loop-i : goal.invariant-loop-i
invariant-loop-i l = put_bits l.s (l.at + 2 * l.i) (alternating (l.n - l.i)) ≡ put_bits l.initial.s l.at (alternating l.n)
