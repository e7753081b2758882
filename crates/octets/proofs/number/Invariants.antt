use mathlib.Core.Path.{◌≡◌}
use Prim.Native.Nat.{◌^◌, ◌<◌}
use Rattle.octets.specs.Bits.{number_at}
use Rattle.octets.proofs.number.Given as goal

abbrev pub invariant-loop-k : goal.invariant-loop-k
invariant-loop-k l = (l.r ≡ number_at l.s l.at l.k) × (l.r < 2 ^ 30)
