-- A word and its number as the machine has them. Assumes nothing.
use mathlib.Core.Bool.{true, false, false≢true}
use mathlib.Core.Path.{◌≡◌, refl, sym, ap, subst, ◌∙◌}
use Prim.Native.Nat.{ℕ, zero, suc, ◌-◌, ◌<◌, ◌≤◌}
use native.Mathlib.Omega.{arith}
use borrow.Author.Tests.{ltb-true}
use lib.IntN.{ℤ, pos, negsuc, nat_abs, ◌-ℤ◌, +ℤ_idl}
use lib.Signed.{lt_z}
use mir.Syntax.{w16, w32}
use mir.Val.{SFits, to_z, of_z}
use mir.Facts.{to_z-of_z, to_z_pos}
use Rattle.run_octets.specs.Octets.{word_number, numbered_word}
use Rattle.run_octets.proofs.Words.{numbered_low, numbered_high}

-- ---- the number of a word

low_number : (z : ℤ) → SFits w16 z → lt_z z (pos 0) ≡ true → (nat_abs z ≤ 65536) × (65536 - nat_abs z ≡ word_number z) × (65536 - nat_abs z < 65536)
low_number (pos n) h e = absurd (omega (arith, ltb-true n 0 e))
low_number (negsuc n) h e = (omega arith, omega arith, omega arith)

high_number : (z : ℤ) → SFits w16 z → lt_z z (pos 0) ≡ false → (nat_abs z ≡ word_number z) × (nat_abs z < 65536)
high_number (pos n) h e = (refl, omega arith)
high_number (negsuc n) h e = absurd (false≢true (sym e))

module _ {z : ℤ} {n : ℕ} (h : SFits w16 z) (e : n ≡ nat_abs (to_z w16 (of_z w16 z))) where
  size_is : n ≡ nat_abs z
  size_is = e ∙ ap nat_abs (to_z-of_z h)

  pub below_number : lt_z (to_z w16 (of_z w16 z)) (pos 0) ≡ true → (n ≤ 65536) × (65536 - n ≡ word_number z) × (65536 - n < 65536)
  below_number f = rw size_is (low_number z h (ap (λ (y : ℤ). lt_z y (pos 0)) (sym (to_z-of_z h)) ∙ f))

  pub above_number : lt_z (to_z w16 (of_z w16 z)) (pos 0) ≡ false → (n ≡ word_number z) × (n < 65536)
  above_number f = rw size_is (high_number z h (ap (λ (y : ℤ). lt_z y (pos 0)) (sym (to_z-of_z h)) ∙ f))

-- the number of a word that was read from a slice
pub number_is : {n : ℕ} (z : ℤ) → SFits w16 z → n ≡ word_number (to_z w16 (of_z w16 z)) → n ≡ word_number z
number_is z h e = e ∙ ap word_number (to_z-of_z h)

-- ---- the word of a number

-- zero less a number of an i32
abbrev less_of : ℕ → ℤ
less_of m = pos 0 -ℤ to_z w32 m

wide : (m : ℕ) → m ≤ 32768 → to_z w32 m ≡ pos m
wide m h = to_z_pos w32 (omega arith)

less : (m : ℕ) → 0 < m → m ≤ 32768 → less_of m ≡ negsuc (m - 1)
less zero h k = absurd (omega arith)
less (suc m) h k = let e : suc m - 1 ≡ m = omega arith in ap (λ (y : ℤ). pos 0 -ℤ y) (wide (suc m) k) ∙ +ℤ_idl (negsuc m) ∙ ap negsuc (sym e)

module _ {n : ℕ} (h : 32768 ≤ n) (k : n < 65536) where
  is_less : less_of (65536 - n) ≡ negsuc (65535 - n)
  is_less = let e : 65536 - n - 1 ≡ 65535 - n = omega arith in less (65536 - n) (omega arith) (omega arith) ∙ ap negsuc e

  pub less_fits : SFits w32 (less_of (65536 - n))
  less_fits = subst (SFits w32) (sym is_less) (record { sfits = omega arith })

  is_wide : to_z w32 (of_z w32 (less_of (65536 - n))) ≡ negsuc (65535 - n)
  is_wide = to_z-of_z less_fits ∙ is_less

  pub less_word : SFits w16 (to_z w32 (of_z w32 (less_of (65536 - n))))
  less_word = subst (SFits w16) (sym is_wide) (record { sfits = omega arith })

  pub less_numbered : to_z w16 (of_z w16 (to_z w32 (of_z w32 (less_of (65536 - n))))) ≡ numbered_word n
  less_numbered = to_z-of_z less_word ∙ is_wide ∙ numbered_high h

pub low_numbered : {n : ℕ} → n < 32768 → to_z w16 n ≡ numbered_word n
low_numbered h = to_z_pos w16 (omega arith) ∙ numbered_low h
