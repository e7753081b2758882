-- The first column that differs from a state: of two octets by counting leading zeros, and along two rows, octet by octet. Assumes nothing.
use mathlib.Core.Path.{◌≡◌, refl, ap, ap₂, sym, ◌∙◌}
use mathlib.Core.List.{List}
use Prim.Native.Nat.{ℕ, zero, suc, ◌+◌, ◌-◌, ◌*◌, ◌/◌, ◌%◌, ◌^◌, ◌<◌, ◌≤◌, max}
use native.Mathlib.Nat.{zero-div, mod-lt, div-eq_of_lt, div-eq_of_lt-le, lt_of_lt_of_le, pow-suc}
use native.Mathlib.Decide.{dec_lt}
use native.Mathlib.Omega.{arith}
use lib.Pow.{pow_pos, pow_mono, field, mod-mod-pow}
use lib.Count.{count_leading_zeros, leading_of_zero, leading_top}
use lib.Bits.{bit_and, bit_or, bit_xor, and_mask}
use lib.ListN.{get_or}
use Rattle.octets.proofs.BitsEqual.{bit_in}
use Rattle.bitmap.specs.Form.{column_at}
use Rattle.bitmap_find.specs.Found.{column_in, First, FirstChange}
use Rattle.bitmap.proofs.Bitwise.{bits_same, all_bit}
use Rattle.basics.proofs.Bitwise.{or_bit, xor_bit}

-- ---- two octets

-- a bit is 1 where the column is not s
abbrev differs : ℕ → ℕ → ℕ → ℕ
differs a b s = bit_or (bit_xor a (s / 2 * 255)) (bit_xor b (s % 2 * 255))

differs_bit : (a b s k : ℕ) → s < 4 → k < 8 → differs a b s / 2 ^ (7 - k) % 2 ≡ max ((a / 2 ^ (7 - k) % 2 + s / 2) % 2) ((b / 2 ^ (7 - k) % 2 + s % 2) % 2)
differs_bit a b s k h l =
    or_bit (bit_xor a (s / 2 * 255)) (bit_xor b (s % 2 * 255)) (7 - k)
    ∙ ap₂ max (xor_bit a (s / 2 * 255) (7 - k) ∙ rw (all_bit (s / 2) k (omega arith) l) refl) (xor_bit b (s % 2 * 255) (7 - k) ∙ rw (all_bit (s % 2) k (omega arith) l) refl)

same_column : (x y s : ℕ) → x < 2 → y < 2 → s < 4 → max ((x + s / 2) % 2) ((y + s % 2) % 2) ≡ 0 → 2 * x + y ≡ s
same_column x y s h l k e = go (bits_same x (s / 2) h (omega arith) (left _ _ e)) (bits_same y (s % 2) l (omega arith) (right _ _ e))
  where
    left : (x y : ℕ) → max x y ≡ 0 → x ≡ 0
    left x y e = omega arith

    right : (x y : ℕ) → max x y ≡ 0 → y ≡ 0
    right x y e = omega arith

    go : x ≡ s / 2 → y ≡ s % 2 → 2 * x + y ≡ s
    go p q = omega arith

other_column : (x y s : ℕ) → x < 2 → y < 2 → s < 4 → max ((x + s / 2) % 2) ((y + s % 2) % 2) ≡ 1 → 2 * x + y ≡ s → ⊥
other_column x y s h l k e f = go (twice x (s / 2) (top f)) (twice y (s % 2) (bottom f))
  where
    top : 2 * x + y ≡ s → x ≡ s / 2
    top f = omega arith

    bottom : 2 * x + y ≡ s → y ≡ s % 2
    bottom f = omega arith

    twice : (x y : ℕ) → x ≡ y → (x + y) % 2 ≡ 0
    twice x y e = omega arith

    go : (x + s / 2) % 2 ≡ 0 → (y + s % 2) % 2 ≡ 0 → ⊥
    go u v = let z : max 0 0 ≡ 1 = rw (u, v) at e in omega (arith, z)

-- the bits from a place on
rest : ℕ → ℕ → ℕ
rest d from = d % 2 ^ (8 - from)

masked : (d from : ℕ) → from < 8 → bit_and d (255 / 2 ^ from) ≡ rest d from
unfolding rest
masked d from h = ap (bit_and d) (ones from h) ∙ and_mask d (8 - from)
  where
    ones : (k : ℕ) → k < 8 → 255 / 2 ^ k ≡ 2 ^ (8 - k) - 1
    ones zero h = refl
    ones (suc zero) h = refl
    ones (suc (suc zero)) h = refl
    ones (suc (suc (suc zero))) h = refl
    ones (suc (suc (suc (suc zero)))) h = refl
    ones (suc (suc (suc (suc (suc zero))))) h = refl
    ones (suc (suc (suc (suc (suc (suc zero)))))) h = refl
    ones (suc (suc (suc (suc (suc (suc (suc zero))))))) h = refl
    ones (suc (suc (suc (suc (suc (suc (suc (suc k)))))))) h = absurd (omega arith)

rest_bit : (d from k : ℕ) → from ≤ k → k < 8 → rest d from / 2 ^ (7 - k) % 2 ≡ d / 2 ^ (7 - k) % 2
unfolding rest
rest_bit d from k h l =
    let z : 8 - from ≡ (k - from + 1) + (7 - k) = omega arith in
    ap (λ (x : ℕ). x % 2) (ap (λ (x : ℕ). d % 2 ^ x / 2 ^ (7 - k)) z ∙ field d (k - from + 1) (7 - k)) ∙ mod-mod-pow (d / 2 ^ (7 - k)) (k - from) 1

rest_lt : (d from : ℕ) → rest d from < 2 ^ (8 - from)
unfolding rest
rest_lt d from = mod-lt d (pow_pos (8 - from))

module _ (a b s from : ℕ) (h : from < 8) (l : s < 4) where
  zero_bit : (k : ℕ) → from ≤ k → k < 8 → rest (differs a b s) from / 2 ^ (7 - k) ≡ 0 → column_in a b k ≡ s
  unfolding column_in
  zero_bit k x y e =
      same_column _ _ s (omega arith) (omega arith) l (sym (differs_bit a b s k l y) ∙ sym (rest_bit (differs a b s) from k x y) ∙ ap (λ (z : ℕ). z % 2) e)

  one_bit : (k : ℕ) → from ≤ k → k < 8 → rest (differs a b s) from / 2 ^ (7 - k) ≡ 1 → column_in a b k ≡ s → ⊥
  unfolding column_in
  one_bit k x y e =
      other_column _ _ s (omega arith) (omega arith) l (sym (differs_bit a b s k l y) ∙ sym (rest_bit (differs a b s) from k x y) ∙ ap (λ (z : ℕ). z % 2) e)

  none_differs : rest (differs a b s) from ≡ 0 → First a b s from (count_leading_zeros 8 (rest (differs a b s) from))
  none_differs e = rw (e, leading_of_zero 8) (record {
    low = omega arith;
    high = omega arith;
    same = λ k x y. zero_bit k x y (rw e (zero-div (2 ^ (7 - k))));
    stop = λ x. absurd (omega arith);
  })

  -- the highest 1 has the weight 2 ^ j
  one_differs : (j f : ℕ) → f + suc j ≡ 8 → 2 ^ j ≤ rest (differs a b s) from → rest (differs a b s) from < 2 ^ suc j → First a b s from f
  one_differs j f e lo hi =
      record {
        low = low (dec_lt j (8 - from));
        high = omega arith;
        same = λ k x y. zero_bit k x (omega arith) (div-eq_of_lt (lt_of_lt_of_le hi (pow_mono {i = suc j} {j = 7 - k} (omega arith))));
        stop = λ x. one_bit f (low (dec_lt j (8 - from))) x one;
      }
    where
      low : Dec (j < 8 - from) → from ≤ f
      low (yes x) = omega arith
      low (no x) = absurd (omega (arith, rest_lt (differs a b s) from, pow_mono {i = 8 - from} {j = j} (omega arith)))

      one : rest (differs a b s) from / 2 ^ (7 - f) ≡ 1
      one =
          let z : 7 - f ≡ j = omega arith in
          rw z (div-eq_of_lt-le {k = 1} (2 ^ j) {m = rest (differs a b s) from} (omega arith) (omega (arith, pow-suc 2 j)))

  pub first_is : First a b s from (count_leading_zeros 8 (bit_and (differs a b s) (255 / 2 ^ from)))
  first_is = rw (masked (differs a b s) from h) (go (dec_lt 0 (rest (differs a b s) from)))
    where
      go : Dec (0 < rest (differs a b s) from) → First a b s from (count_leading_zeros 8 (rest (differs a b s) from))
      go (no x) = none_differs (omega arith)
      go (yes x) =
          let w : _ = leading_top 8 (rest (differs a b s) from) x (lt_of_lt_of_le (rest_lt (differs a b s) from) (pow_mono {i = 8 - from} {j = 8} (omega arith))) in
          one_differs w.0 (count_leading_zeros 8 (rest (differs a b s) from)) w.1 w.2 w.3

-- ---- two rows

-- the columns from a up to b are all s
pub record Passed (bm : List ℕ) (top bottom s a b : ℕ) : Type 0 where
  pub all : (k : ℕ) → a ≤ k → k < b → column_at bm top bottom k ≡ s

passed_more : {bm : List ℕ} {top bottom s a b c : ℕ} → Passed bm top bottom s a b → Passed bm top bottom s b c → Passed bm top bottom s a c
passed_more {bm} {top} {bottom} {s} {a} {b} {c} f g = record { all = λ k h l. go k h l (dec_lt k b) }
  where
    go : (k : ℕ) → a ≤ k → k < c → Dec (k < b) → column_at bm top bottom k ≡ s
    go k h l (yes x) = f.all k h x
    go k h l (no x) = g.all k (omega arith) l

-- a column of the rows' octet j
in_octet : (bm : List ℕ) (top bottom j k : ℕ) → k / 8 ≡ j → column_at bm top bottom k ≡ column_in (get_or bm (top + j) 0) (get_or bm (bottom + j) 0) (k % 8)
unfolding column_at column_in
in_octet bm top bottom j k e =
    rw (bit_in bm (8 * top + k) (top + j) (k % 8) (omega arith) (omega arith), bit_in bm (8 * bottom + k) (bottom + j) (k % 8) (omega arith) (omega arith)) refl

-- octet j looked at from its column x on
module _ (bm : List ℕ) (top bottom j x : ℕ) {s f : ℕ} (w : First (get_or bm (top + j) 0) (get_or bm (bottom + j) 0) s x f) where
  pub octet_on : {from : ℕ} (y : ℕ) → Passed bm top bottom s from (8 * j + x) → y ≤ 8 * j + f → Passed bm top bottom s from y
  octet_on y p h = passed_more p (record { all = λ k u l. in_octet bm top bottom j k (omega (arith, w.high)) ∙ w.same (k % 8) (omega (arith, w.high)) (omega (arith, w.high)) })

  octet_stop : f < 8 → column_at bm top bottom (8 * j + f) ≡ s → ⊥
  octet_stop h e =
      let z : (8 * j + f) % 8 ≡ f = omega arith in
      w.stop h (sym (in_octet bm top bottom j (8 * j + f) (omega arith) ∙ rw z refl) ∙ e)

  pub octet_end : {from : ℕ} (to : ℕ) → from ≤ 8 * j + x → Passed bm top bottom s from (8 * j + x) → f < 8 → 8 * j + f < to → FirstChange bm top bottom s from to (8 * j + f)
  octet_end to b p h e = record { low = omega (arith, w.low); high = omega arith; same = (octet_on (8 * j + f) p (omega arith)).all; stop = λ u. octet_stop h }

pub along_all : {bm : List ℕ} {top bottom s from y : ℕ} (to : ℕ) → from ≤ to → to ≤ y → Passed bm top bottom s from y → FirstChange bm top bottom s from to to
along_all to h l p = record { low = h; high = omega arith; same = λ k x z. p.all k x (omega arith); stop = λ x. absurd (omega arith) }
