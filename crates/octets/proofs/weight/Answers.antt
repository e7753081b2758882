-- `octets::weight` meets its contract. Assumes nothing.
use mathlib.Core.Path.{◌∙◌, ap}
use Prim.Native.Nat.{ℕ, ◌%◌, ◌^◌}
use native.Mathlib.Nat.{one-mul, mod-eq_of_lt}
use native.Mathlib.Omega.{arith}
use lib.Pow.{pow-lt}
use Rattle.octets.proofs.weight.Goals as goal

pub returns : goal.returns
returns c = let k : ℕ = c.args.k in ap (λ (x : ℕ). x % 65536) (one-mul (2 ^ k)) ∙ mod-eq_of_lt {m = 65536} (pow-lt {i = k} {j = 16} (omega arith))
