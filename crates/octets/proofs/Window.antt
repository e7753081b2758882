-- Eight bits at once: two octets side by side hold the eight bits from any bit of the first on, as an octet; and the first bits of an octet, low
-- bit first, are the low bits of its reverse, which the turning table has. Assumes nothing.
use mathlib.Core.Path.{◌≡◌, refl, sym, ap, ap₂, ◌∙◌}
use mathlib.Core.Bool.{Bool, true}
use mathlib.Core.List.{List, [], ◌∷◌, append-nil}
use Prim.Native.Nat.{ℕ, zero, suc, ◌+◌, ◌-◌, ◌*◌, ◌/◌, ◌%◌, ◌^◌, ◌<◌, ◌≤◌}
use native.Mathlib.Nat.{zero-add, add-zero, suc-add, zero-mul, pow-suc}
use native.Mathlib.Decide.{dec_lt}
use native.Mathlib.Omega.{arith}
use lib.Dec.{T, eqb, eqb→eq}
use lib.Pow.{pow-add, high, low}
use lib.ListN.{get_or, take}
use Rattle.octets.specs.Bits.{Bit, O, num, to_bit, bit_num, bit_at, bits_from, value, field_at, high_first, number_at, number_bits, packed}
use Rattle.turning.specs.Turned.{reversed, turned_of}
use Rattle.octets.proofs.Fields.{bits_take, length_bits, num_at, high_number, number_lt}
use Rattle.octets.proofs.Packed.{all_packed}
use Rattle.octets.proofs.BitsEqual.{bit_in, bit_at_lem}
use Rattle.basics.proofs.Table.{both, both_left, both_right, at}
use Rattle.turning.proofs.Turned.{entry, entries}

-- ---- the eight bits

-- a number of a + b bits, high bit first, is that of the first a and that of the others
pub number_split : (s : List ℕ) (i a b : ℕ) → number_at s i (a + b) ≡ number_at s i a * 2 ^ b + number_at s (i + a) b
unfolding number_at high_first bits_from
number_split s i zero b = rw (zero-add b, add-zero i) (omega (arith, zero-mul (2 ^ b)))
number_split s i (suc a) b =
    let r = number_split s (suc i) a b in
    let e : suc i + a ≡ i + suc a = omega arith in
    rw (suc-add a b, pow-add 2 a b) (omega (arith, rw e at r))

-- the last n bits of an octet
pub octet_bits_lem : (s : List ℕ) (i n p : ℕ) → n ≤ 8 → p ≡ 8 * i + (8 - n) → bits_from s p n ≡ number_bits n (get_or s i 0)
unfolding bits_from number_bits bit_at
octet_bits_lem s i zero p h e = refl
octet_bits_lem s i (suc n) p h e =
    let z : 7 - (7 - n) ≡ n = omega arith in
    let b : bit_num s p ≡ get_or s i 0 / 2 ^ (7 - (7 - n)) % 2 = bit_in s p i (7 - n) (omega arith) (omega arith) in
    ap₂ (λ (x : Bit) (xs : List Bit). x ∷ xs) (ap to_bit (rw z at b)) (octet_bits_lem s i n (suc p) (omega arith) (omega arith))

pub number_octet : (s : List ℕ) (i : ℕ) → get_or s i 0 < 256 → number_at s (8 * i) 8 ≡ get_or s i 0
unfolding number_at
number_octet s i h = ap (high_first 8) (octet_bits_lem s i 8 (8 * i) (omega arith) (omega arith)) ∙ high_number 8 (get_or s i 0) ∙ omega arith

-- n bits of a number, behind which stand b
pub number_within : (s : List ℕ) (i a n b : ℕ) → number_at s i (a + (n + b)) / 2 ^ b % 2 ^ n ≡ number_at s (i + a) n
number_within s i a n b = rw (parts, high (number_at s i a * 2 ^ n + number_at s (i + a) n) b (number_lt s (i + a + n) b)) (low (number_at s i a) n (number_lt s (i + a) n))
  where
    parts : number_at s i (a + (n + b)) ≡ (number_at s i a * 2 ^ n + number_at s (i + a) n) * 2 ^ b + number_at s (i + a + n) b
    parts = number_split s i a (n + b) ∙ rw (number_split s (i + a) n b, pow-add 2 n b) (omega arith)

-- the eight bits from bit i on, by the two octets that they stand in: behind them stand 8 - i % 8 bits of the second
pub window : (s : List ℕ) (i : ℕ) → get_or s (i / 8) 0 < 256 → get_or s (i / 8 + 1) 0 < 256 → (get_or s (i / 8) 0 * 256 + get_or s (i / 8 + 1) 0) / 2 ^ (8 - i % 8) % 256 ≡ number_at s i 8
window s i h l =
    let n : i % 8 + (8 + (8 - i % 8)) ≡ 16 = omega arith in
    let f : 8 * (i / 8) + i % 8 ≡ i = omega arith in
    rw (sym both_octets ∙ ap (number_at s (8 * (i / 8))) (sym n)) (number_within s (8 * (i / 8)) (i % 8) 8 (8 - i % 8) ∙ ap (λ (j : ℕ). number_at s j 8) f)
  where
    both_octets : number_at s (8 * (i / 8)) 16 ≡ get_or s (i / 8) 0 * 256 + get_or s (i / 8 + 1) 0
    both_octets =
        let e : 8 * (i / 8) + 8 ≡ 8 * (i / 8 + 1) = omega arith in
        number_split s (8 * (i / 8)) 8 8 ∙ rw (e, number_octet s (i / 8) h, number_octet s (i / 8 + 1) l) refl

-- an octet of so many bits' number has the bits
pub number_bits_lem : (s : List ℕ) (i : ℕ) → bits_from (number_at s i 8 ∷ []) 0 8 ≡ bits_from s i 8
unfolding number_at packed
number_bits_lem s i = all_packed 1 (bits_from s i 8) (omega (arith, length_bits s i 8)) ∙ rw (length_bits s i 8) (append-nil (bits_from s i 8))

-- an octet with the eight bits from bit i on has each of them
pub window_bit : (s : List ℕ) (x i k : ℕ) → bits_from (x ∷ []) 0 8 ≡ bits_from s i 8 → k < 8 → bit_num (x ∷ []) k ≡ bit_num s (i + k)
window_bit s x i k e h =
    let b : bit_at (x ∷ []) (0 + k) ≡ bit_at s (i + k) = sym (bit_at_lem (x ∷ []) 0 8 k h) ∙ ap (λ (bs : List Bit). get_or bs k O) e ∙ bit_at_lem s i 8 k h in
    sym (num_at (x ∷ []) k) ∙ ap num (rw (zero-add k) at b) ∙ num_at s (i + k)

-- ---- the first bits of an octet

-- an octet with the eight bits from bit i on has the fields there
pub field_window : (s : List ℕ) (x i n : ℕ) → bits_from (x ∷ []) 0 8 ≡ bits_from s i 8 → n ≤ 8 → field_at (x ∷ []) 0 n ≡ field_at s i n
unfolding field_at
field_window s x i n e h = ap value (sym (bits_take (x ∷ []) 0 n 8 h) ∙ ap (take n) e ∙ bits_take s i n 8 h)

-- a field of a + b bits is that of the first a and that of the others
pub field_split : (s : List ℕ) (i a b : ℕ) → field_at s i (a + b) ≡ field_at s i a + 2 ^ a * field_at s (i + a) b
unfolding field_at value bits_from
field_split s i zero b = rw (zero-add b, add-zero i) (omega arith)
field_split s i (suc a) b =
    let r = field_split s (suc i) a b in
    let e : suc i + a ≡ i + suc a = omega arith in
    rw (suc-add a b, pow-suc 2 a) (omega (arith, rw e at r))

-- the first n bits of octet x, whose turned octet is t, say the low bits of its reverse
low_bits : ℕ → ℕ → ℕ → Bool
unfolding field_at bits_from value bit_at bit_num
low_bits zero x t = true
low_bits (suc n) x t = both (eqb (field_at (x ∷ []) 0 n) ((255 - t) % 2 ^ n)) (low_bits n x t)

all_low : (x : ℕ) → x < 256 → T (low_bits 9 x (get_or entries x 0))
unfolding entries low_bits
all_low x h = at (low_bits 9) entries tt x h

low_at : (m n x t : ℕ) → T (low_bits m x t) → n < m → field_at (x ∷ []) 0 n ≡ (255 - t) % 2 ^ n
unfolding low_bits
low_at zero n x t h l = absurd (omega arith)
low_at (suc m) n x t h l = go (dec_lt n m) (low_at m n x t (both_right (eqb (field_at (x ∷ []) 0 m) ((255 - t) % 2 ^ m)) (low_bits m x t) h))
  where
    go : Dec (n < m) → (n < m → field_at (x ∷ []) 0 n ≡ (255 - t) % 2 ^ n) → field_at (x ∷ []) 0 n ≡ (255 - t) % 2 ^ n
    go (yes k) shorter = shorter k
    go (no k) shorter =
        let e : n ≡ m = omega arith in
        rw e (eqb→eq (field_at (x ∷ []) 0 m) ((255 - t) % 2 ^ m) (both_left (eqb (field_at (x ∷ []) 0 m) ((255 - t) % 2 ^ m)) (low_bits m x t) h))

pub octet_field : (x n : ℕ) → x < 256 → n ≤ 8 → field_at (x ∷ []) 0 n ≡ reversed 8 x % 2 ^ n
unfolding turned_of
octet_field x n h l =
    let e : 255 - turned_of x ≡ reversed 8 x = omega arith in
    low_at 9 n x (get_or entries x 0) (all_low x h) (omega arith) ∙ ap (λ (y : ℕ). (255 - y) % 2 ^ n) (entry x h) ∙ ap (λ (y : ℕ). y % 2 ^ n) e
