-- Laws of the exclusive or beside those of lib.Bits: of two bits, by digits, and associativity by halving. Assumes nothing.
use mathlib.Core.Path.{◌≡◌, refl, ap, ap₂, sym, ◌∙◌}
use Prim.Native.Nat.{ℕ, ◌+◌, ◌*◌, ◌/◌, ◌%◌, ◌<◌}
use native.Mathlib.Nat.{mod-add-mod, add-mod-mod}
use native.Mathlib.Omega.{arith}
use lib.Arith.{bin_ind}
use Rattle.basics.proofs.Bitwise.{two_bits}
use lib.Bits.{bit_xor, differ, xor_step, xor_zero_l, xor_comm, xor_shr, xor_mod}

-- of two bits it is the sum mod 2
pub bits_xor : (x y : ℕ) → x < 2 → y < 2 → bit_xor x y ≡ (x + y) % 2
bits_xor x y h l = two_bits (λ x y. bit_xor x y ≡ (x + y) % 2) refl refl refl refl x y h l

bits_differ : (x y : ℕ) → x < 2 → y < 2 → differ x y ≡ (x + y) % 2
bits_differ x y h l = two_bits (λ x y. differ x y ≡ (x + y) % 2) refl refl refl refl x y h l

pub xor_half : (a b : ℕ) → bit_xor a b / 2 ≡ bit_xor (a / 2) (b / 2)
xor_half a b = xor_shr a b 1

pub xor_odd : (a b : ℕ) → bit_xor a b % 2 ≡ (a % 2 + b % 2) % 2
xor_odd a b = xor_mod a b 1 ∙ bits_xor (a % 2) (b % 2) (omega arith) (omega arith)

-- by its digits
pub xor_digits : (a b : ℕ) → bit_xor a b ≡ bit_xor (a / 2) (b / 2) * 2 + (a % 2 + b % 2) % 2
xor_digits a b = xor_step a b ∙ ap (λ (x : ℕ). bit_xor (a / 2) (b / 2) * 2 + x) (bits_differ (a % 2) (b % 2) (omega arith) (omega arith))

pub xor_assoc : (a b c : ℕ) → bit_xor (bit_xor a b) c ≡ bit_xor a (bit_xor b c)
xor_assoc a = bin_ind (λ (a : ℕ). (b c : ℕ) → bit_xor (bit_xor a b) c ≡ bit_xor a (bit_xor b c)) base more a
  where
    base : (b c : ℕ) → bit_xor (bit_xor 0 b) c ≡ bit_xor 0 (bit_xor b c)
    base b c = ap (λ (x : ℕ). bit_xor x c) (xor_zero_l b) ∙ sym (xor_zero_l (bit_xor b c))

    more : (n : ℕ) → ((b c : ℕ) → bit_xor (bit_xor (n / 2) b) c ≡ bit_xor (n / 2) (bit_xor b c)) → (b c : ℕ) → bit_xor (bit_xor n b) c ≡ bit_xor n (bit_xor b c)
    more n ih b c =
        xor_digits (bit_xor n b) c
        ∙ ap₂ (λ (x y : ℕ). x * 2 + y)
        (ap (λ (x : ℕ). bit_xor x (c / 2)) (xor_half n b) ∙ ih (b / 2) (c / 2) ∙ ap (bit_xor (n / 2)) (sym (xor_half b c)))
        (rw (xor_odd n b, xor_odd b c) (simp (mod-add-mod, add-mod-mod) (ap (λ (x : ℕ). x % 2) (omega arith))))
        ∙ sym (xor_digits n (bit_xor b c))

-- the two inner ones change places
pub xor_swap : (a b c d : ℕ) → bit_xor (bit_xor a b) (bit_xor c d) ≡ bit_xor (bit_xor a c) (bit_xor b d)
xor_swap a b c d =
    xor_assoc a b (bit_xor c d)
    ∙ ap (bit_xor a) (sym (xor_assoc b c d) ∙ ap (λ (x : ℕ). bit_xor x d) (xor_comm b c) ∙ xor_assoc c b d)
    ∙ sym (xor_assoc a c (bit_xor b d))

pub xor_twice : (a b : ℕ) → bit_xor (a * 2) (b * 2) ≡ bit_xor a b * 2
xor_twice a b =
    let p : a * 2 / 2 ≡ a = omega arith in
    let q : b * 2 / 2 ≡ b = omega arith in
    let h : a * 2 % 2 ≡ 0 = omega arith in
    let l : b * 2 % 2 ≡ 0 = omega arith in
    xor_digits (a * 2) (b * 2) ∙ rw (p, q, h, l) (omega arith)
