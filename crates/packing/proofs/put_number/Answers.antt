-- `packing::put_number` meets its contract: what is left to put from here is what was to be put. Assumes nothing.
use mathlib.Core.Path.{◌≡◌, ap, ◌∙◌}
use Prim.Native.Nat.{◌+◌, ◌-◌}
use native.Mathlib.Omega.{arith}
use Rattle.octets.specs.Bits.{put_bits, number_bits}
use Rattle.octets.proofs.Fields.{put_number}
use Rattle.packing.proofs.put_number.Goals as goal

pub returns : goal.returns
unfolding put_bits number_bits
returns c = let z : c.args.n - c.loop-k.k ≡ 0 = omega arith in rw z at c.loop-k.invariant

pub loop-k-preserved : goal.loop-k-preserved
loop-k-preserved c =
    let a : _ = c.args in
    let l : _ = c.loop-k in
    let e : a.n - (a.n - l.k - 1) ≡ l.k + 1 = omega arith in
    let f : a.n - (a.n - l.k) ≡ l.k = omega arith in
    let g : a.n - l.k - 1 ≡ a.n - (l.k + 1) = omega arith in
    let h : a.n - 1 - l.k ≡ a.n - (l.k + 1) = omega arith in
    ap (λ s. put_bits s (a.at + (l.k + 1)) (number_bits (a.n - (l.k + 1)) a.v)) (rw h at c.set_bit.ensures)
    ∙ rw (e, f, g) at (put_number l.s a.at a.n (a.n - l.k) a.v (omega arith) (omega arith)) ∙ l.invariant
