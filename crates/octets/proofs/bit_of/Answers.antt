-- `octets::bit_of` meets its contract. Assumes nothing.
use mathlib.Core.Path.{◌≡◌, refl}
use Prim.Native.Nat.{◌/◌, ◌%◌}
use native.Mathlib.Omega.{arith}
use Rattle.octets.specs.Bits.{bit_num}
use Rattle.octets.proofs.bit_of.Goals as goal

pub returns : goal.returns
unfolding bit_num
returns c =
    let k : _ = c.args.k in
    let d : k / 8 ≡ 0 = omega arith in
    let m : k % 8 ≡ k = omega arith in
    (rw (d, m) refl, omega arith)
