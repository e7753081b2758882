-- Bits put octet by octet: bits that stand in one octet replace a part of it, and the eight bits of an octet stand in two. Assumes nothing.
use mathlib.Core.Path.{◌≡◌, refl, sym, ap, ap₂, ◌∙◌}
use mathlib.Core.List.{List, ◌∷◌, ◌++◌}
use Prim.Native.Nat.{ℕ, zero, suc, ◌+◌, ◌-◌, ◌*◌, ◌/◌, ◌%◌, ◌^◌, ◌<◌, ◌≤◌}
use native.Mathlib.Nat.{zero-add, add-zero, suc-add, zero-mul, mod-one, mod-lt, mul-le-mul_right}
use native.Mathlib.Numerals.{one-add}
use native.Mathlib.Decide.{dec_lt}
use native.Mathlib.Omega.{arith}
use lib.Pow.{pow_pos, pow-add, high, low, split, mod-pow-add, mod-mod-pow, shr_lt, shr-shr}
use lib.ListN.{length, get_or, set}
use lib.Seq.{set_out, set-set, set-get_or, get_or-set_same}
use Rattle.octets.specs.Bits.{Bit, to_bit, bits_from, number_bits, with_bit, with_bits, set_bit, put_bits}
use Rattle.octets.proofs.Fields.{num_bit, length_number, put_append, bits_split}
use Rattle.octets.proofs.Window.{octet_bits_lem}

-- ---- bits in one octet

with_none : (y m v : ℕ) → with_bits y m 0 v ≡ y
unfolding with_bits
with_none y m v = rw (zero-add m, mod-one v, zero-mul (2 ^ m), add-zero (y / 2 ^ m * 2 ^ m)) (split y m)

with_more : (y m n v : ℕ) → with_bits (with_bit y (n + m) (v / 2 ^ n % 2)) m n v ≡ with_bits y m (suc n) v
unfolding with_bits with_bit
with_more y m n v =
    let c = v / 2 ^ n % 2 in
    let hi = y / 2 ^ (n + m + 1) in
    let y-is : hi * 2 ^ (n + m + 1) + c * 2 ^ (n + m) + y % 2 ^ (n + m) ≡ (hi * 2 + c) * 2 ^ (n + m) + y % 2 ^ (n + m) = rw (pow-add 2 (n + m) 1) (omega arith) in
    let less : y % 2 ^ (n + m) < 2 ^ (n + m) = mod-lt _ (pow_pos (n + m)) in
    let e : suc n + m ≡ n + m + 1 = omega arith in
    let v-is : v % 2 ^ suc n ≡ c * 2 ^ n + v % 2 ^ n = ap (λ (k : ℕ). v % 2 ^ k) (sym (one-add n)) ∙ mod-pow-add v 1 n in
    let l : ((hi * 2 + c) * 2 ^ (n + m) + y % 2 ^ (n + m)) % 2 ^ m ≡ y % 2 ^ m =
    sym (mod-mod-pow _ n m) ∙ ap (λ (z : ℕ). z % 2 ^ m) (low (hi * 2 + c) (n + m) less) ∙ mod-mod-pow y n m in
    rw (y-is, high (hi * 2 + c) (n + m) {lo = y % 2 ^ (n + m)} less, l, v-is, e, pow-add 2 (n + m) 1, pow-add 2 n m) (omega arith)

-- n bits of an octet with m behind them, replaced
pub put_within : (s : List ℕ) (i m n v p : ℕ) → n + m ≤ 8 → p ≡ 8 * i + (8 - (n + m)) → put_bits s p (number_bits n v) ≡ set s i (with_bits (get_or s i 0) m n v)
unfolding put_bits number_bits set_bit
put_within s i m zero v p h e = sym (ap (set s i) (with_none (get_or s i 0) m v) ∙ set-get_or s i 0)
put_within s i m (suc n) v p h e =
    ap (λ (t : List ℕ). put_bits t (suc p) (number_bits n v)) s_is ∙ put_within s₁ i m n v (suc p) (omega arith) (omega arith) ∙ go (dec_lt i (length s))
  where
    d : p / 8 ≡ i
    d = omega arith

    r : 7 - p % 8 ≡ n + m
    r = omega arith

    y₁ : ℕ
    y₁ = with_bit (get_or s i 0) (n + m) (v / 2 ^ n % 2)

    s₁ : List ℕ
    s₁ = set s i y₁

    s_is : set_bit s p (to_bit (v / 2 ^ n % 2)) ≡ s₁
    s_is = rw (d, r, num_bit (v / 2 ^ n % 2) (omega arith)) refl

    go : Dec (i < length s) → set s₁ i (with_bits (get_or s₁ i 0) m n v) ≡ set s i (with_bits (get_or s i 0) m (suc n) v)
    go (yes k) = rw (get_or-set_same s i y₁ 0 k, set-set s i y₁ (with_bits y₁ m n v), with_more (get_or s i 0) m n v) refl
    go (no k) =
        let o : length s ≤ i = omega arith in
        let z : s₁ ≡ s = set_out s i y₁ o in
        rw (z, set_out s i (with_bits (get_or s i 0) m n v) o, set_out s i (with_bits (get_or s i 0) m (suc n) v) o) refl

-- the octet so made, by the weights of its bits: its parts are small, and it is an octet
pub record Parts (y m n v w f h : ℕ) : Type 0 where
  pub some_low : 0 < w
  pub some : 0 < f
  pub some_high : 0 < h
  pub top : y / h * h ≤ 255
  pub middle : v % f * w < 256
  pub octet : y / h * h + v % f * w + y % w < 256
  pub is : y / h * h + v % f * w + y % w ≡ with_bits y m n v

pub parts : (y m n v w f h : ℕ) → y < 256 → n + m ≤ 8 → w ≡ 2 ^ m → f ≡ 2 ^ n → h ≡ 2 ^ (n + m) → Parts y m n v w f h
unfolding with_bits
parts y m n v w f h small l w-is f-is h-is = rw (w-is, f-is, h-is) record {
  some_low = pow_pos m;
  some = pow_pos n;
  some_high = x;
  top = omega (arith, u, x);
  middle = omega (arith, c, u, pow_pos m);
  octet = omega (arith, b, c, u);
  is = refl;
}
  where
    a : v % 2 ^ n < 2 ^ n
    a = mod-lt v (pow_pos n)

    b : y % 2 ^ m < 2 ^ m
    b = mod-lt y (pow_pos m)

    c : (v % 2 ^ n + 1) * 2 ^ m ≤ 2 ^ (n + m)
    c = rw (pow-add 2 n m) (mul-le-mul_right (2 ^ m) (omega (arith, a)))

    z : 2 ^ (8 - (n + m) + (n + m)) ≡ 256
    z = let e : 8 - (n + m) + (n + m) ≡ 8 = omega arith in ap (λ (k : ℕ). 2 ^ k) e

    t : y / 2 ^ (n + m) < 2 ^ (8 - (n + m))
    t = shr_lt (8 - (n + m)) (n + m) (rw z small)

    u : (y / 2 ^ (n + m) + 1) * 2 ^ (n + m) ≤ 256
    u = omega (arith, z, pow-add 2 (8 - (n + m)) (n + m), mul-le-mul_right {m = y / 2 ^ (n + m) + 1} {n = 2 ^ (8 - (n + m))} (2 ^ (n + m)) (omega (arith, t)))

    x : 0 < 2 ^ (n + m)
    x = pow_pos (n + m)

-- ---- eight bits

number_halves : (a b v : ℕ) → number_bits (a + b) v ≡ number_bits a (v / 2 ^ b) ++ number_bits b v
unfolding number_bits
number_halves zero b v = rw (zero-add b) refl
number_halves (suc a) b v =
    rw (suc-add a b) (ap₂ (λ (x : Bit) (xs : List Bit). x ∷ xs) (ap (λ (z : ℕ). to_bit (z % 2)) (ap (λ (k : ℕ). v / 2 ^ k) (omega arith) ∙ sym (shr-shr v b a))) (number_halves a b v))

pub put_two : (s : List ℕ) (at r x : ℕ) → r ≤ 8 → put_bits (put_bits s at (number_bits (8 - r) (x / 2 ^ r))) (at + (8 - r)) (number_bits r x) ≡ put_bits s at (number_bits 8 x)
put_two s at r x h =
    let e : 8 ≡ (8 - r) + r = omega arith in
    sym (ap (λ (bs : List Bit). put_bits s at bs) (ap (λ (n : ℕ). number_bits n x) e ∙ number_halves (8 - r) r x) ∙ put_append s at (number_bits (8 - r) (x / 2 ^ r)) (number_bits r x)
    ∙ ap (λ (n : ℕ). put_bits (put_bits s at (number_bits (8 - r) (x / 2 ^ r))) (at + n) (number_bits r x)) (length_number (8 - r) (x / 2 ^ r)))

-- a whole octet, and what is left
pub put_whole : (s from : List ℕ) (at i n : ℕ) → 8 * (i + 1) ≤ n →
    put_bits (put_bits s (at + 8 * i) (number_bits 8 (get_or from i 0))) (at + 8 * (i + 1)) (bits_from from (8 * (i + 1)) (n - 8 * (i + 1))) ≡ put_bits s (at + 8 * i) (bits_from from (8 * i) (n - 8 * i))
put_whole s from at i n h =
    let e : n - 8 * i ≡ 8 + (n - 8 * (i + 1)) = omega arith in
    let f : 8 * i + 8 ≡ 8 * (i + 1) = omega arith in
    let g : at + 8 * i + 8 ≡ at + 8 * (i + 1) = omega arith in
    let b : bits_from from (8 * i) 8 ≡ number_bits 8 (get_or from i 0) = octet_bits_lem from i 8 (8 * i) (omega arith) (omega arith) in
    sym (ap (λ (bs : List Bit). put_bits s (at + 8 * i) bs) (ap (bits_from from (8 * i)) e ∙ bits_split from (8 * i) 8 (n - 8 * (i + 1)) ∙ rw (b, f) refl)
    ∙ put_append s (at + 8 * i) (number_bits 8 (get_or from i 0)) (bits_from from (8 * (i + 1)) (n - 8 * (i + 1)))
    ∙ rw (length_number 8 (get_or from i 0), g) refl)
