-- `diagram::ones` meets its contract. Assumes nothing.
use mathlib.Core.Path.{◌≡◌, ◌∙◌, ap}
use Prim.Native.Nat.{ℕ, ◌-◌, ◌*◌, ◌%◌, ◌^◌, ◌≤◌}
use native.Mathlib.Nat.{one-mul, mod-eq_of_lt}
use native.Mathlib.Omega.{arith}
use lib.Pow.{pow-lt, pow_pos}
use Rattle.diagram.proofs.ones.Goals as goal

shifted : (k : ℕ) → k ≤ 7 → 1 * 2 ^ k % 18446744073709551616 ≡ 2 ^ k
shifted k h = ap (λ (x : ℕ). x % 18446744073709551616) (one-mul (2 ^ k)) ∙ mod-eq_of_lt {m = 18446744073709551616} (pow-lt {i = k} {j = 64} (omega arith))

some : (k : ℕ) → k ≤ 7 → 1 ≤ 1 * 2 ^ k % 18446744073709551616
some k h = rw (shifted k h) (pow_pos k)

pub overflow_sub-result : goal.overflow_sub-result
overflow_sub-result c = some c.args.n (omega arith)

pub returns : goal.returns
returns c = ap (λ (x : ℕ). x - 1) (shifted c.args.n (omega arith))
