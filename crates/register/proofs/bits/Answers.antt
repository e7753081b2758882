-- `register::bits` meets its contract: what is left from here is what was to be done. Assumes nothing.
use mathlib.Core.Path.{◌≡◌, sym, ap, ◌∙◌}
use Prim.Native.Nat.{◌+◌, ◌-◌}
use native.Mathlib.Omega.{arith}
use Rattle.octets.specs.Bits.{bits_from, to_bit}
use Rattle.register.specs.Register.{step_of, register_after}
use Rattle.register.proofs.Steps.{check_more, check_end}
use Rattle.register.proofs.bits.Goals as goal

pub loop-i-preserved : goal.loop-i-preserved
loop-i-preserved c =
    let a : _ = c.args in
    let l : _ = c.loop-i in
    let e : c.step-r.result ≡ _ = c.step-r.ensures.0 ∙ ap (λ b. step_of a.g l.r (to_bit b)) c.bit.ensures.0 in
    (omega arith, ap (λ x. register_after a.g x (bits_from a.s.now (l.i + 1) (a.end - (l.i + 1)))) e ∙ check_more a.g l.r a.s.now l.i a.end (omega arith) ∙ l.invariant.1)

pub returns : goal.returns
returns c = let l : _ = c.loop-i in (sym (check_end _ _ _ _ _ (omega arith)) ∙ l.invariant.1, l.invariant.0)
