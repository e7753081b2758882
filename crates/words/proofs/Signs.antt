-- Signed numbers as the machine has them: it reads a number from its bits. Assumes nothing.
use mathlib.Core.Bool.{true, false, false≢true}
use mathlib.Core.Path.{◌≡◌, refl, sym, ◌∙◌}
use Prim.Native.Nat.{ℕ, zero, suc, ◌≤◌}
use native.Mathlib.Nat.{zero-add}
use native.Mathlib.Omega.{arith}
use borrow.Author.Tests.{ltb-true}
use lib.IntN.{ℤ, pos, negsuc, nat_abs, ◌-ℤ◌, +ℤ_idl}
use lib.Signed.{lt_z}
use mir.Syntax.{w16, w32}
use mir.Val.{SFits, to_z, of_z}
use mir.Facts.{sfits_widen, to_z-of_z, to_z_pos}
use Rattle.octets.specs.Bits.{O, I}
use Rattle.words.specs.Words.{word_of, colour_of}

-- ---- a word's colour

pub low_black : {z : ℤ} → SFits w16 z → lt_z (to_z w16 (of_z w16 z)) (pos 0) ≡ true → colour_of z ≡ I
low_black {z} h e = go z (rw (to_z-of_z h) at e)
  where
    go : (z : ℤ) → lt_z z (pos 0) ≡ true → colour_of z ≡ I
    go (pos n) e = absurd (omega (arith, ltb-true n 0 e))
    go (negsuc n) e = refl

pub high_white : {z : ℤ} → SFits w16 z → lt_z (to_z w16 (of_z w16 z)) (pos 0) ≡ false → colour_of z ≡ O
high_white {z} h e = go z (rw (to_z-of_z h) at e)
  where
    go : (z : ℤ) → lt_z z (pos 0) ≡ false → colour_of z ≡ O
    go (pos n) e = refl
    go (negsuc n) e = absurd (false≢true (sym e))

-- ---- a word's size

-- a word as an i32
abbrev wide_of : ℤ → ℤ
wide_of z = to_z w32 (of_z w32 (to_z w16 (of_z w16 z)))

wide : {z : ℤ} → SFits w16 z → wide_of z ≡ z
wide h = rw (to_z-of_z {w = w16} h) (to_z-of_z {w = w32} (sfits_widen {w = w16} tt h))

-- zero less it
pub less_fits : {z : ℤ} → SFits w16 z → SFits w32 (pos 0 -ℤ wide_of z)
less_fits {z} h = rw (wide h) (go z h)
  where
    go : (z : ℤ) → SFits w16 z → SFits w32 (pos 0 -ℤ z)
    go (pos zero) h = record { sfits = omega arith }
    go (pos (suc n)) h = rw (+ℤ_idl (negsuc n)) (record { sfits = omega arith })
    go (negsuc n) h = rw (+ℤ_idl (pos (suc n))) (record { sfits = omega arith })

-- where it is below zero, that is its size
pub low_size : {z : ℤ} → SFits w16 z → lt_z (wide_of z) (pos 0) ≡ true → to_z w32 (of_z w32 (pos 0 -ℤ wide_of z)) ≡ pos (nat_abs z)
low_size {z} h e = rw (wide h) (go z h (rw (wide h) at e))
  where
    go : (z : ℤ) → SFits w16 z → lt_z z (pos 0) ≡ true → to_z w32 (of_z w32 (pos 0 -ℤ z)) ≡ pos (nat_abs z)
    go (pos n) h e = absurd (omega (arith, ltb-true n 0 e))
    go (negsuc n) h e = rw (zero-add (suc n)) (to_z_pos w32 (omega arith))

pub high_size : {z : ℤ} → SFits w16 z → lt_z (wide_of z) (pos 0) ≡ false → wide_of z ≡ pos (nat_abs z)
high_size {z} h e = wide h ∙ go z (rw (wide h) at e)
  where
    go : (z : ℤ) → lt_z z (pos 0) ≡ false → z ≡ pos (nat_abs z)
    go (pos n) e = refl
    go (negsuc n) e = absurd (false≢true (sym e))

-- ---- the word of a size

pub white_word : {n : ℕ} → n ≤ 1726 → to_z w16 n ≡ word_of O n
white_word h = to_z_pos w16 (omega arith)

pub black_fits : (n : ℕ) → n ≤ 1726 → SFits w16 (pos 0 -ℤ pos n)
black_fits zero h = record { sfits = omega arith }
black_fits (suc n) h = rw (+ℤ_idl (negsuc n)) (record { sfits = omega arith })
