-- `octets::bit` meets its contract. Assumes nothing.
use mathlib.Core.Path.{ap}
use Prim.Native.Nat.{ℕ, ◌/◌, ◌%◌, ◌-◌, ◌^◌}
use native.Mathlib.Omega.{arith}
use Rattle.octets.specs.Bits.{bit_num}
use Rattle.octets.proofs.bit.Goals as goal

pub returns : goal.returns
unfolding bit_num
returns c = (ap (λ (x : ℕ). x / 2 ^ (7 - c.args.i % 8) % 2) c.octet.ensures, omega arith)
