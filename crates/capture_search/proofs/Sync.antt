-- Numbers compared bit by bit, from the high one on. Assumes nothing.
use mathlib.Core.Path.{◌≡◌}
use Prim.Native.Nat.{ℕ, ◌+◌, ◌/◌, ◌%◌, ◌^◌}
use native.Mathlib.Omega.{arith}
use lib.Pow.{shr-shr}

-- two numbers that agree above bit n, and in it
pub agree_more : (a b n : ℕ) → a / 2 ^ (n + 1) ≡ b / 2 ^ (n + 1) → a / 2 ^ n % 2 ≡ b / 2 ^ n % 2 → a / 2 ^ n ≡ b / 2 ^ n
agree_more a b n e f =
    let x = shr-shr a n 1 in
    let y = shr-shr b n 1 in
    omega (arith, x, y, e, f)
