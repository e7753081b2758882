-- `octets::number` meets its contract: what is read so far is the number of the bits passed. Assumes nothing.
use mathlib.Core.Path.{◌≡◌, refl, ap, ◌∙◌}
use Prim.Native.Nat.{◌+◌, ◌*◌}
use native.Mathlib.Nat.{lt_of_lt_of_le}
use native.Mathlib.Omega.{arith}
use lib.Pow.{pow_mono}
use Rattle.octets.specs.Bits.{number_at, high_first}
use Rattle.octets.proofs.Fields.{number_more, number_lt}
use Rattle.octets.proofs.number.Goals as goal

pub loop-k-init : goal.loop-k-init
unfolding number_at high_first
loop-k-init c = (refl, omega arith)

pub loop-k-preserved : goal.loop-k-preserved
loop-k-preserved c =
    let a : _ = c.args in
    let l : _ = c.loop-k in
    let e : 2 * l.r + c.bit.result ≡ number_at a.s.now a.at (l.k + 1) = (cc (number_more a.s.now a.at l.k)) in
    (e, rw e (lt_of_lt_of_le (number_lt a.s.now a.at (l.k + 1)) (pow_mono {j = 30} (omega arith))))

pub returns : goal.returns
returns c =
    let a : _ = c.args in
    let l : _ = c.loop-k in
    let z : l.k ≡ a.n = omega arith in
    let e : l.r ≡ number_at a.s.now a.at a.n = l.invariant.0 ∙ ap (number_at a.s.now a.at) z in
    (e, rw e (number_lt a.s.now a.at a.n))
