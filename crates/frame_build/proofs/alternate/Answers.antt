-- `frame_build::alternate` meets its contract: what is left to put from here is what was to be put. Assumes nothing.
use mathlib.Core.Path.{◌≡◌, ap, ◌∙◌}
use mathlib.Core.List.{List}
use Prim.Native.Nat.{ℕ, suc, ◌+◌, ◌-◌, ◌*◌, ◌<◌}
use native.Mathlib.Omega.{arith}
use Rattle.octets.specs.Bits.{put_bits, field_bits}
use Rattle.frame.specs.Layout.{alternating}
use Rattle.frame_build.proofs.alternate.Goals as goal

more : (s : List ℕ) (at i n : ℕ) → i < n → put_bits (put_bits s (at + 2 * i) (field_bits 2 1)) (at + 2 * (i + 1)) (alternating (n - (i + 1))) ≡ put_bits s (at + 2 * i) (alternating (n - i))
unfolding put_bits alternating field_bits
more s at i n h =
    let e : n - i ≡ suc (n - (i + 1)) = omega arith in
    let f : at + 2 * (i + 1) ≡ suc (suc (at + 2 * i)) = omega arith in
    rw (e, f)

pub returns : goal.returns
unfolding put_bits alternating
returns c = let z : c.args.n - c.loop-i.i ≡ 0 = omega arith in rw z at c.loop-i.invariant

pub loop-i-preserved : goal.loop-i-preserved
loop-i-preserved c = let a : _ = c.args in let l : _ = c.loop-i in
    ap (λ s. put_bits s (a.at + 2 * (l.i + 1)) (alternating (a.n - (l.i + 1)))) c.put.ensures ∙ more l.s a.at l.i a.n (omega arith) ∙ l.invariant
