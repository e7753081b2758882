-- Octets are known by their bits: two lists of octets with the same bits are the same; and the bits of two lists, one behind the other.
-- Assumes nothing.
use mathlib.Core.Path.{◌≡◌, refl, sym, ap, ap₂, ◌∙◌}
use mathlib.Core.List.{List, ◌∷◌, ◌++◌}
use Prim.Native.Nat.{ℕ, zero, suc, ◌+◌, ◌-◌, ◌*◌, ◌/◌, ◌%◌, ◌^◌, ◌<◌, ◌≤◌}
use native.Mathlib.Nat.{zero-div}
use native.Mathlib.Omega.{arith}
use lib.ListN.{length, get_or, get_or-append, get_or-eq_default}
use lib.Seq.{get_or-append-add, ext_get_or}
use Rattle.octets.specs.Bits.{Bit, O, to_bit, bit_num, bit_at, bits_from, high_first, number_bits}
use Rattle.basics.specs.Octets.{Octets}
use Rattle.octets.proofs.Fields.{high_number}

numbers_same : (n x y : ℕ) → ((k : ℕ) → k < n → x / 2 ^ k % 2 ≡ y / 2 ^ k % 2) → number_bits n x ≡ number_bits n y
unfolding number_bits
numbers_same zero x y e = refl
numbers_same (suc n) x y e = ap₂ (λ (b : Bit) (bs : List Bit). b ∷ bs) (ap to_bit (e n (omega arith))) (numbers_same n x y (λ k h. e k (omega arith)))

octet_same : (x y : ℕ) → x < 256 → y < 256 → ((k : ℕ) → k < 8 → x / 2 ^ k % 2 ≡ y / 2 ^ k % 2) → x ≡ y
octet_same x y h l e =
    let m : x % 2 ^ 8 ≡ y % 2 ^ 8 = sym (high_number 8 x) ∙ ap (high_first 8) (numbers_same 8 x y e) ∙ high_number 8 y in
    omega (arith, m)

-- bit t as a bit of its octet
pub bit_in : (s : List ℕ) (t i k : ℕ) → t / 8 ≡ i → t % 8 ≡ k → bit_num s t ≡ get_or s i 0 / 2 ^ (7 - k) % 2
unfolding bit_num
bit_in s t i k e f = rw (e, f)

pub octets_same : (o p : List ℕ) → length o ≡ length p → Octets o → Octets p → ((t : ℕ) → t < 8 * length o → bit_num o t ≡ bit_num p t) → o ≡ p
octets_same o p e f g same = ext_get_or 0 o p e (λ i h. octet_same (get_or o i 0) (get_or p i 0) (f i) (g i) (λ k l. at i k h l))
  where
    at : (i k : ℕ) → i < length o → k < 8 → get_or o i 0 / 2 ^ k % 2 ≡ get_or p i 0 / 2 ^ k % 2
    at i k h l =
        let z : 7 - (7 - k) ≡ k = omega arith in
        let a : bit_num o (8 * i + (7 - k)) ≡ get_or o i 0 / 2 ^ (7 - (7 - k)) % 2 = bit_in o (8 * i + (7 - k)) i (7 - k) (omega arith) (omega arith) in
        let b : bit_num p (8 * i + (7 - k)) ≡ get_or p i 0 / 2 ^ (7 - (7 - k)) % 2 = bit_in p (8 * i + (7 - k)) i (7 - k) (omega arith) (omega arith) in
        let c : get_or o i 0 / 2 ^ (7 - (7 - k)) % 2 ≡ get_or p i 0 / 2 ^ (7 - (7 - k)) % 2 = sym a ∙ same (8 * i + (7 - k)) (omega arith) ∙ b in
        rw z at c

-- ---- one list behind the other

pub bit_left : (xs ys : List ℕ) (t : ℕ) → t < 8 * length xs → bit_num (xs ++ ys) t ≡ bit_num xs t
unfolding bit_num
bit_left xs ys t h = rw (get_or-append xs ys 0 (t / 8) (omega arith))

pub bit_right : (xs ys : List ℕ) (n t : ℕ) → n ≡ 8 * length xs → bit_num (xs ++ ys) (n + t) ≡ bit_num ys t
unfolding bit_num
bit_right xs ys n t e =
    let d : (n + t) / 8 ≡ length xs + t / 8 = omega arith in
    let m : (n + t) % 8 ≡ t % 8 = omega arith in
    rw (d, m, get_or-append-add xs ys (t / 8) 0)

pub bit_past : (s : List ℕ) (t : ℕ) → 8 * length s ≤ t → bit_num s t ≡ 0
unfolding bit_num
bit_past s t h = rw (get_or-eq_default s 0 {n = t / 8} (omega arith), zero-div (2 ^ (7 - t % 8)))

-- ---- bits as a list

pub bit_at_lem : (s : List ℕ) (i n k : ℕ) → k < n → get_or (bits_from s i n) k O ≡ bit_at s (i + k)
unfolding bits_from
bit_at_lem s i zero k h = absurd (omega arith)
bit_at_lem s i (suc n) zero h = ap (bit_at s) (omega arith)
bit_at_lem s i (suc n) (suc k) h = bit_at_lem s (suc i) n k (omega arith) ∙ ap (bit_at s) (omega arith)
