-- The bits of an or and of an exclusive or, and of masks of ones. Assumes nothing.
use mathlib.Core.Path.{◌≡◌, refl, ◌∙◌}
use mathlib.Core.Bool.{Bool, true, false, cond}
use Prim.Native.Nat.{ℕ, zero, suc, ◌+◌, ◌-◌, ◌*◌, ◌/◌, ◌%◌, ◌^◌, ◌<◌, ◌≤◌}
use native.Mathlib.Decide.{dec_lt}
use native.Mathlib.Nat.{zero-div}
use native.Mathlib.Omega.{arith}
use lib.Dec.{T, ltb, leb, eqb}
use lib.Pow.{shr-shr, shr_le}
use borrow.Author.Tests.{le-leb, lt-leb, lt-ltb, le-ltb, eqb-true}
use Rattle.basics.proofs.Table.{both, both_left, both_right}

pub bits_same : (x y : ℕ) → x < 2 → y < 2 → (x + y) % 2 ≡ 0 → x ≡ y
bits_same x y h l e = omega arith

-- ---- tests of all numbers below n

abbrev below : ℕ → (ℕ → Bool) → Bool
below zero f = true
below (suc n) f = both (f n) (below n f)

below_at : (n : ℕ) (f : ℕ → Bool) → T (below n f) → (k : ℕ) → k < n → T (f k)
below_at zero f t k h = absurd (omega arith)
below_at (suc n) f t k h = go (dec_lt k n) (λ l. below_at n f (both_right (f n) (below n f) t) k l)
  where
    go : Dec (k < n) → (k < n → T (f k)) → T (f k)
    go (yes l) g = g l
    go (no l) g = let z : k ≡ n = omega arith in rw z (both_left (f n) (below n f) t)

eqb_is : (a b : ℕ) → T (eqb a b) → a ≡ b
eqb_is a b t = go (eqb a b) refl t
  where
    go : (x : Bool) → eqb a b ≡ x → T x → a ≡ b
    go true e t = eqb-true a b e
    go false e t = absurd t

-- ---- ones from place u up to place v of an octet

abbrev pub mask : ℕ → ℕ → ℕ
mask u v = 255 / 2 ^ u - 255 / 2 ^ v

abbrev inside : ℕ → ℕ → ℕ → ℕ
inside u v k = cond (leb u k) (cond (ltb k v) 1 0) 0

mask_bit : (u v k : ℕ) → u < 9 → v < 9 → k < 8 → mask u v / 2 ^ (7 - k) % 2 ≡ inside u v k
mask_bit u v k h l m =
    eqb_is _ _ (below_at 8 (λ k. eqb (mask u v / 2 ^ (7 - k) % 2) (inside u v k))
    (below_at 9 (λ v. below 8 (λ k. eqb (mask u v / 2 ^ (7 - k) % 2) (inside u v k)))
    (below_at 9 (λ u. below 9 (λ v. below 8 (λ k. eqb (mask u v / 2 ^ (7 - k) % 2) (inside u v k)))) tt u h) v l) k m)

pub mask_in : (u v k : ℕ) → u ≤ k → k < v → v < 9 → mask u v / 2 ^ (7 - k) % 2 ≡ 1
mask_in u v k h l m = mask_bit u v k (omega arith) m (omega arith) ∙ rw (le-leb u k h, lt-ltb k v l) refl

pub mask_out : (u v k : ℕ) → u < 9 → v < 9 → k < 8 → (u ≤ k → k < v → ⊥) → mask u v / 2 ^ (7 - k) % 2 ≡ 0
mask_out u v k h l m out = mask_bit u v k h l m ∙ go (dec_lt k u)
  where
    go : Dec (k < u) → inside u v k ≡ 0
    go (yes w) = rw (lt-leb u k w) refl
    go (no w) = rw (le-leb u k (omega arith), le-ltb k v (past (dec_lt k v))) refl
      where
        past : Dec (k < v) → v ≤ k
        past (yes z) = absurd (out (omega arith) z)
        past (no z) = omega arith

pub mask_le : (u v : ℕ) → mask u v ≤ 255
mask_le u v = omega (arith, shr_le 255 u)

pub mask_mono : (u v : ℕ) → u ≤ v → 255 / 2 ^ v ≤ 255 / 2 ^ u
mask_mono u v h = let z : v ≡ u + (v - u) = omega arith in rw (z, ← shr-shr 255 u (v - u)) (shr_le (255 / 2 ^ u) (v - u))

-- the bits of an octet that is all u
pub all_bit : (u k : ℕ) → u < 2 → k < 8 → u * 255 / 2 ^ (7 - k) % 2 ≡ u
all_bit zero k h l = rw (zero-div (2 ^ (7 - k))) refl
all_bit (suc zero) k h l = mask_in 0 8 k (omega arith) l (omega arith)
all_bit (suc (suc u)) k h l = absurd (omega arith)
