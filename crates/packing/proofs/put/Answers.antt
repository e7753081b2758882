-- `packing::put` meets its contract: what is left to put from here is what was to be put. Assumes nothing.
use mathlib.Core.Path.{◌≡◌, ap, ◌∙◌}
use Prim.Native.Nat.{◌+◌, ◌-◌, ◌/◌}
use native.Mathlib.Omega.{arith}
use Rattle.octets.specs.Bits.{put_bits, field_bits}
use Rattle.octets.proofs.Fields.{put_field}
use Rattle.packing.proofs.put.Goals as goal

pub returns : goal.returns
unfolding put_bits field_bits
returns c =
    let a : _ = c.args in
    let l : _ = c.loop-i in
    let z : a.at + a.n - l.i ≡ 0 = omega arith in
    rw z at l.invariant

pub loop-i-preserved : goal.loop-i-preserved
loop-i-preserved c = let a : _ = c.args in let l : _ = c.loop-i in
    ap (λ s. put_bits s (l.i + 1) (field_bits (a.at + a.n - (l.i + 1)) (l.w / 2))) c.set_bit.ensures ∙ put_field l.s l.i (a.at + a.n) l.w (omega arith) ∙ l.invariant
