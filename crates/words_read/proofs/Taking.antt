-- The tests of a word: whether it is 0, and whether it is below 0. Assumes nothing.
use mathlib.Core.Bool.{Bool, true, false, false≢true}
use mathlib.Core.Path.{◌≡◌, refl, sym, ap, subst, ◌∙◌}
use mathlib.Core.List.{List}
use Prim.Native.Nat.{ℕ, zero, suc, ◌+◌, ◌≤◌}
use native.Mathlib.Omega.{arith}
use lib.Dec.{eqb}
use lib.IntN.{ℤ, pos, negsuc, nat_abs}
use lib.Signed.{lt_z}
use borrow.Author.Tests.{ltb-true}
use mir.Facts.{to_z-of_z}
use mir.Syntax.{w16}
use mir.Val.{SFits, to_z, of_z}
use Rattle.octets.specs.Bits.{num}
use Rattle.bitmap.specs.Laid.{SetIfBlack}
use Rattle.words_read.specs.declared.Line.{Line}
use Rattle.words_read.specs.declared.Colour.TheVariants.{White, Black}
use Rattle.words_read.specs.declared.WordEffect.{WordEffect}
use Rattle.words_read.specs.declared.Pen.{Pen}
use Rattle.words.specs.Words.{colour_of}
use Rattle.words_read.specs.Scan.{ending, going, next_of, ends_page, moved}
use Rattle.std.specs.Prelude.{Option}

pub is_zero : {z : ℤ} → SFits w16 z → of_z w16 z ≡ 0 → z ≡ pos 0
is_zero h e = sym (to_z-of_z h) ∙ ap (to_z w16) e

pub not_zero : (z : ℤ) → (of_z w16 z ≡ 0 → ⊥) → z ≡ pos 0 → ⊥
not_zero z f e = f (ap (of_z w16) e)

pub is_below : {z : ℤ} {t : Bool} → SFits w16 z → lt_z (to_z w16 (of_z w16 z)) (pos 0) ≡ t → lt_z z (pos 0) ≡ t
is_below h e = ap (λ (y : ℤ). lt_z y (pos 0)) (sym (to_z-of_z h)) ∙ e

-- of any word, the lowest too
most_size : (z : ℤ) → SFits w16 z → nat_abs z ≤ 32768
most_size (pos n) h = omega arith
most_size (negsuc n) h = omega arith

pub size_same : {z : ℤ} → SFits w16 z → nat_abs (to_z w16 (of_z w16 z)) ≡ nat_abs z
size_same h = ap nat_abs (to_z-of_z h)

-- a size that was taken of a word
pub size_is : {n : ℕ} {z : ℤ} → SFits w16 z → n ≡ nat_abs (to_z w16 (of_z w16 z)) → n ≡ nat_abs z
size_is h e = e ∙ size_same h

pub size_most : {n : ℕ} {z : ℤ} → SFits w16 z → n ≡ nat_abs (to_z w16 (of_z w16 z)) → n ≤ 32768
size_most {n} {z} h e = omega (arith, size_is h e, most_size z h)

above : (n : ℕ) → lt_z (pos n) (pos 0) ≡ true → ⊥
above n e = let h : _ = ltb-true n 0 e in omega (arith, h)

-- ---- by cases

pub next_end : (l : Line) {z : ℤ} → z ≡ pos 0 → ending l ≡ next_of l z
next_end l e = rw e refl

pub next_black : (l : Line) (z : ℤ) → lt_z z (pos 0) ≡ true → going l Black (nat_abs z) ≡ next_of l z
next_black l (pos n) e = absurd (above n e)
next_black l (negsuc n) e = refl

pub next_white : (l : Line) (z : ℤ) → (z ≡ pos 0 → ⊥) → lt_z z (pos 0) ≡ false → going l White (nat_abs z) ≡ next_of l z
next_white l (pos zero) f e = absurd (f refl)
next_white l (pos (suc n)) f e = refl
next_white l (negsuc n) f e = absurd (false≢true (sym e))

-- what a word comes to, where the word was read from a slice
pub next_is : (l : Line) {n : Option WordEffect} {z : ℤ} → SFits w16 z → n ≡ next_of l (to_z w16 (of_z w16 z)) → n ≡ next_of l z
next_is l h e = e ∙ ap (next_of l) (to_z-of_z h)

pub ends_zero : (p : Pen) {z : ℤ} → z ≡ pos 0 → eqb p.at p.row ≡ ends_page z p
ends_zero p e = rw e refl

pub ends_not : (p : Pen) (z : ℤ) → (z ≡ pos 0 → ⊥) → false ≡ ends_page z p
ends_not p (pos zero) f = absurd (f refl)
ends_not p (pos (suc n)) f = refl
ends_not p (negsuc n) f = refl

-- ---- a word drawn

pub drawn_end : (p : Pen) (o : List ℕ) {z : ℤ} → z ≡ pos 0 → (record { row = p.row + 1728; at = p.row + 1728 } ≡ moved p z) × SetIfBlack (num (colour_of z)) p.at (p.at + nat_abs z) o o
drawn_end p o e = rw e (refl, record { black = λ q. absurd (omega arith); white = λ q. refl })

pub moved_by : (p : Pen) (z : ℤ) {n : ℕ} → SFits w16 z → (z ≡ pos 0 → ⊥) → n ≡ p.at + nat_abs (to_z w16 (of_z w16 z)) → record { row = p.row; at = n } ≡ moved p z
moved_by p z {n} h f e = go z f (e ∙ ap (λ (k : ℕ). p.at + k) (size_same h))
  where
    go : (z : ℤ) → (z ≡ pos 0 → ⊥) → n ≡ p.at + nat_abs z → record { row = p.row; at = n } ≡ moved p z
    go (pos zero) f e = absurd (f refl)
    go (pos (suc m)) f e = rw e refl
    go (negsuc m) f e = rw e refl

pub colour_is : {n : ℕ} {z : ℤ} → SFits w16 z → n ≡ num (colour_of (to_z w16 (of_z w16 z))) → n ≡ num (colour_of z)
colour_is h e = e ∙ ap (λ (y : ℤ). num (colour_of y)) (to_z-of_z h)

pub inked_by : {c d n m a : ℕ} {o p : List ℕ} → c ≡ d → n ≡ m → SetIfBlack c a (a + n) o p → SetIfBlack d a (a + m) o p
inked_by {c} {d} {n} {m} {a} {o} {p} e f k = subst (λ (x : ℕ). SetIfBlack x a (a + m) o p) e (subst (λ (x : ℕ). SetIfBlack c a (a + x) o p) f k)

-- where the word was read from a slice
pub moved_is : (p : Pen) {q : Pen} {z : ℤ} → SFits w16 z → q ≡ moved p (to_z w16 (of_z w16 z)) → q ≡ moved p z
moved_is p h e = e ∙ ap (moved p) (to_z-of_z h)

pub inked_is : (a : ℕ) {o p : List ℕ} (z : ℤ) → SFits w16 z → SetIfBlack (num (colour_of (to_z w16 (of_z w16 z)))) a (a + nat_abs (to_z w16 (of_z w16 z))) o p → SetIfBlack (num (colour_of z)) a (a + nat_abs z) o p
inked_is a {o} {p} z h k = subst (λ (y : ℤ). SetIfBlack (num (colour_of y)) a (a + nat_abs y) o p) (to_z-of_z h) k
