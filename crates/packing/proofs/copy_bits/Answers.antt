-- `packing::copy_bits` meets its contract: what is left to put from here is what was to be put. Assumes nothing.
use mathlib.Core.Path.{◌≡◌, ap, ◌∙◌}
use Prim.Native.Nat.{◌+◌, ◌-◌, ◌*◌, ◌/◌}
use native.Mathlib.Omega.{arith}
use Rattle.octets.specs.Bits.{put_bits, bits_from, number_bits, set_bit, to_bit}
use Rattle.octets.proofs.Fields.{put_bits_lem}
use Rattle.packing.proofs.Octetwise.{put_whole}
use Rattle.packing.proofs.copy_bits.Goals as goal

pub loop-i-preserved : goal.loop-i-preserved
loop-i-preserved c =
    let a : _ = c.args in
    let l : _ = c.loop-i in
    ap (λ s. put_bits s (a.at + 8 * (l.i + 1)) (bits_from a.from.now (8 * (l.i + 1)) (a.n - 8 * (l.i + 1)))) (c.put_octet.ensures ∙ ap (λ x. put_bits l.s (a.at + 8 * l.i) (number_bits 8 x)) c.octet.ensures)
    ∙ put_whole l.s a.from.now a.at l.i a.n (omega arith) ∙ l.invariant

pub loop-k-preserved : goal.loop-k-preserved
loop-k-preserved c =
    let a : _ = c.args in
    let l : _ = c.loop-k in
    ap (λ s. put_bits s (a.at + (l.k + 1)) (bits_from a.from.now (l.k + 1) (a.n - (l.k + 1)))) (c.set_bit.ensures ∙ ap (λ b. set_bit l.s (a.at + l.k) (to_bit b)) c.bit.ensures.0) ∙ put_bits_lem l.s a.from.now a.at l.k a.n (omega arith) ∙ l.invariant

pub returns : goal.returns
unfolding put_bits bits_from
returns c =
    let l : _ = c.loop-k in
    let f : _ = c.loop-i in
    let a : _ = c.args in
    let z : a.n - l.k ≡ 0 = omega arith in
    let e : f.i ≡ a.n / 8 = omega arith in
    rw z at l.invariant ∙ rw e at f.invariant
