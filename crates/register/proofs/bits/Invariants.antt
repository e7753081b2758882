use mathlib.Core.Path.{◌≡◌}
use Prim.Native.Nat.{◌-◌, ◌<◌}
use Rattle.octets.specs.Bits.{bits_from}
use Rattle.register.specs.Register.{register_after}
use Rattle.register.proofs.bits.Given as goal

abbrev pub invariant-loop-i : goal.invariant-loop-i
invariant-loop-i l = (l.r < 4096) × (register_after l.g l.r (bits_from l.s l.i (l.end - l.i)) ≡ register_after l.g l.start (bits_from l.s l.first (l.end - l.first)))
