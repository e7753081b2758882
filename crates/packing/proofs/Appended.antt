-- Bits put where there are none yet: a part is added to one octet, and the rest is the next one. Assumes nothing.
use mathlib.Core.Path.{◌≡◌, refl, sym, ap, ◌∙◌}
use mathlib.Core.List.{List, ◌∷◌}
use Prim.Native.Nat.{ℕ, zero, suc, ◌+◌, ◌-◌, ◌*◌, ◌/◌, ◌%◌, ◌^◌, ◌<◌, ◌≤◌}
use native.Mathlib.Nat.{add-zero, zero-div, zero-mod, mod-one, mul-mod_left, mul-add-div_right, pow-suc}
use native.Mathlib.Omega.{arith}
use lib.Pow.{pow_pos, high, split, mod-pow-add, shl-shr, shr_mod}
use lib.ListN.{get_or, set}
use lib.Seq.{get_or-set_other}
use Rattle.octets.specs.Bits.{Bit, to_bit, field_bits, number_bits, with_bits, put_bits, Free}
use Rattle.turning.specs.Turned.{reversed}
use Rattle.packing.proofs.Octetwise.{put_within, put_two, parts}
use Rattle.turning.proofs.Swapped.{reversed_lt}

-- ---- a field is a number reversed

number_low : (n hi lo : ℕ) → number_bits n (hi * 2 ^ n + lo) ≡ number_bits n lo
unfolding number_bits
number_low zero hi lo = refl
number_low (suc n) hi lo =
    let e : hi * 2 ^ suc n + lo ≡ hi * 2 * 2 ^ n + lo = rw (pow-suc 2 n) (omega arith) in
    let b : (hi * 2 + lo / 2 ^ n) % 2 ≡ lo / 2 ^ n % 2 = omega arith in
    rw (e, mul-add-div_right (pow_pos n) (hi * 2) lo, b) (ap (λ (bs : List Bit). to_bit (lo / 2 ^ n % 2) ∷ bs) (number_low n (hi * 2) lo))

pub number_reversed : (n v : ℕ) → number_bits n (reversed n v) ≡ field_bits n v
unfolding number_bits field_bits
number_reversed zero v = refl
number_reversed (suc n) v =
    let b : v % 2 % 2 ≡ v % 2 = omega arith in
    rw (high (v % 2) n {lo = reversed n (v / 2)} (reversed_lt n (v / 2)), b)
    (ap (λ (bs : List Bit). to_bit (v % 2) ∷ bs) (number_low n (v % 2) (reversed n (v / 2)) ∙ number_reversed n (v / 2)))

-- ---- the two octets

module _ (y r x : ℕ) (h : r ≤ 8) (l : x < 256) (z : y % 2 ^ (8 - r) ≡ 0) where
  added : with_bits y 0 (8 - r) (x / 2 ^ r) ≡ y + x / 2 ^ r
  unfolding with_bits
  added =
      let e : 8 - r + r ≡ 8 = omega arith in
      let f : x < 2 ^ (8 - r + r) = rw e l in
      let s = split y (8 - r) in
      rw (add-zero (8 - r), shr_mod (8 - r) r f, mod-one y) (omega arith)

  -- what is added fits
  pub added_lt : y < 256 → y + x / 2 ^ r < 256
  added_lt m = let p = parts y 0 (8 - r) (x / 2 ^ r) 1 (2 ^ (8 - r)) (2 ^ (8 - r + 0)) m (omega arith) refl refl refl in omega (arith, p.octet, p.is, added)

rest : (r x : ℕ) → r ≤ 8 → with_bits 0 (8 - r) r x ≡ x * 2 ^ (8 - r) % 256
unfolding with_bits
rest r x h =
    let e : r + (8 - r) ≡ 8 = omega arith in
    let m = mod-pow-add (x * 2 ^ (8 - r)) r (8 - r) in
    rw (zero-div (2 ^ (r + (8 - r))), zero-mod (2 ^ (8 - r))) (omega (arith, rw (e, shl-shr x (8 - r), mul-mod_left x (2 ^ (8 - r))) at m))

-- eight bits put from bit `at` on
pub put_free : (s : List ℕ) (at x : ℕ) → x < 256 → Free s at →
    put_bits s at (number_bits 8 x) ≡ set (set s (at / 8) (get_or s (at / 8) 0 + x / 2 ^ (at % 8))) (at / 8 + 1) (x * 2 ^ (8 - at % 8) % 256)
put_free s at x h f =
    sym (put_two s at r x (omega arith)) ∙ ap (λ (t : List ℕ). put_bits t (at + (8 - r)) (number_bits r x)) one
    ∙ put_within s₁ (i + 1) (8 - r) r x (at + (8 - r)) (omega arith) (omega arith)
    ∙ ap (set s₁ (i + 1)) (ap (λ (y : ℕ). with_bits y (8 - r) r x) (get_or-set_other s i (i + 1) _ 0 (λ e. omega arith) ∙ f.behind) ∙ rest r x (omega arith))
  where
    i : ℕ
    i = at / 8

    r : ℕ
    r = at % 8

    s₁ : List ℕ
    s₁ = set s i (get_or s i 0 + x / 2 ^ r)

    one : put_bits s at (number_bits (8 - r) (x / 2 ^ r)) ≡ s₁
    one = put_within s i 0 (8 - r) (x / 2 ^ r) at (omega arith) (omega arith) ∙ ap (set s i) (added (get_or s i 0) r x (omega arith) h f.own)
