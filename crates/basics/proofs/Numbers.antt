-- Laws of numbers. Assumes nothing.
use Prim.Native.Nat.{ℕ, zero, suc, ◌*◌, ◌<◌, ◌≤◌}
use native.Mathlib.Nat.{zero-mul, one-mul}
use native.Mathlib.Omega.{arith}

-- a bit times a number
pub times_bit : (n b : ℕ) → b < 2 → b * n ≤ n
times_bit n zero h = omega (arith, zero-mul n)
times_bit n (suc zero) h = omega (arith, one-mul n)
times_bit n (suc (suc b)) h = absurd (omega arith)
