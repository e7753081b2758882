-- The bits of an or and of an exclusive or. Assumes nothing.
use mathlib.Core.Path.{◌≡◌, refl, ap, ◌∙◌}
use Prim.Native.Nat.{ℕ, zero, suc, ◌+◌, ◌/◌, ◌%◌, ◌^◌, ◌<◌, max}
use native.Mathlib.Omega.{arith}
use lib.Bits.{bit_or, bit_xor, or_shr, or_mod, xor_shr, xor_mod}

-- a fact of two bits, at the four pairs
pub two_bits : (P : ℕ → ℕ → Type 0) → P 0 0 → P 0 1 → P 1 0 → P 1 1 → (x y : ℕ) → x < 2 → y < 2 → P x y
two_bits P a b c d zero zero h l = a
two_bits P a b c d zero (suc zero) h l = b
two_bits P a b c d (suc zero) zero h l = c
two_bits P a b c d (suc zero) (suc zero) h l = d
two_bits P a b c d zero (suc (suc y)) h l = absurd (omega arith)
two_bits P a b c d (suc zero) (suc (suc y)) h l = absurd (omega arith)
two_bits P a b c d (suc (suc x)) y h l = absurd (omega arith)

pub or_bit : (a b k : ℕ) → bit_or a b / 2 ^ k % 2 ≡ max (a / 2 ^ k % 2) (b / 2 ^ k % 2)
or_bit a b k =
    ap (λ (x : ℕ). x % 2) (or_shr a b k) ∙ or_mod (a / 2 ^ k) (b / 2 ^ k) 1
    ∙ two_bits (λ x y. bit_or x y ≡ max x y) refl refl refl refl (a / 2 ^ k % 2) (b / 2 ^ k % 2) (omega arith) (omega arith)

pub xor_bit : (a b k : ℕ) → bit_xor a b / 2 ^ k % 2 ≡ (a / 2 ^ k % 2 + b / 2 ^ k % 2) % 2
xor_bit a b k =
    ap (λ (x : ℕ). x % 2) (xor_shr a b k) ∙ xor_mod (a / 2 ^ k) (b / 2 ^ k) 1
    ∙ two_bits (λ x y. bit_xor x y ≡ (x + y) % 2) refl refl refl refl (a / 2 ^ k % 2) (b / 2 ^ k % 2) (omega arith) (omega arith)
