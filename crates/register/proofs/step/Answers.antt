-- `register::step` meets its contract. Assumes nothing.
use mathlib.Core.Path.{◌≡◌, sym, subst}
use Prim.Native.Nat.{ℕ, ◌+◌, ◌*◌, ◌/◌, ◌%◌, ◌<◌}
use native.Mathlib.Omega.{arith}
use lib.Bits.{bit_xor}
use Rattle.octets.specs.Bits.{to_bit}
use Rattle.octets.proofs.Fields.{num_bit}
use Rattle.register.specs.Register.{step_of}
use Rattle.register.proofs.Steps.{times_lt, step_lt}
use Rattle.register.proofs.step.Goals as goal

stepped : (g r b : ℕ) → b < 2 → bit_xor (r * 2 % 4096) (g * ((r / 2048 + b) % 2)) ≡ step_of g r (to_bit b)
unfolding step_of
stepped g r b h = rw (num_bit b h)

pub returns : goal.returns
returns c =
    let a : _ = c.args in
    let e = stepped a.g a.r a.b c.requires.2 in
    (e, subst (λ (x : ℕ). x < 4096) (sym e) (step_lt a.g a.r (to_bit a.b) c.requires.0))

pub overflow_mul-result-2 : goal.overflow_mul-result-2
overflow_mul-result-2 c = omega (arith, times_lt c.args.g ((c.args.r / 2048 + c.args.b) % 2) (omega arith) (omega arith))
