-- Laws of bits and of fields sent low bit first. Assumes nothing.
use mathlib.Core.Path.{◌≡◌, refl, sym, ap, ◌∙◌}
use mathlib.Core.List.{List, [], ◌∷◌, ◌++◌}
use Prim.Native.Nat.{ℕ, zero, suc, ◌+◌, ◌-◌, ◌*◌, ◌/◌, ◌%◌, ◌^◌, ◌<◌, ◌≤◌}
use native.Mathlib.Nat.{mod-lt, add-suc, add-zero, suc-add, zero-add, pow-suc, mod-one}
use native.Mathlib.Numerals.{add-one, one-add}
use native.Mathlib.Omega.{arith}
use lib.Dec.{lit<}
use lib.Pow.{pow_pos, mod-pow-add}
use lib.ListN.{length, take, drop, length-set}
use lib.Seq.{take_at, drop_at}
use Rattle.octets.specs.Bits.{Bit, O, I, num, to_bit, bit_num, bit_at, bits_from, value, field_bits, field_at, high_first, number_at, number_bits, set_bit, put_bits}

pub bit_lt : (s : List ℕ) (i : ℕ) → bit_num s i < 2
unfolding bit_num
bit_lt s i = mod-lt _ (lit< tt)

pub num_lt : (b : Bit) → num b < 2
num_lt O = lit< tt
num_lt I = lit< tt

pub num_bit : (b : ℕ) → b < 2 → num (to_bit b) ≡ b
num_bit zero h = refl
num_bit (suc zero) h = refl
num_bit (suc (suc b)) h = absurd (omega arith)

pub bit_num_lem : (b : Bit) → to_bit (num b) ≡ b
bit_num_lem O = refl
bit_num_lem I = refl

pub num_at : (s : List ℕ) (i : ℕ) → num (bit_at s i) ≡ bit_num s i
unfolding bit_at
num_at s i = num_bit (bit_num s i) (bit_lt s i)

pub length_bits : (s : List ℕ) (i n : ℕ) → length (bits_from s i n) ≡ n
unfolding bits_from
length_bits s i zero = refl
length_bits s i (suc n) = ap suc (length_bits s (suc i) n)

pub bits_split : (s : List ℕ) (i a b : ℕ) → bits_from s i (a + b) ≡ bits_from s i a ++ bits_from s (i + a) b
unfolding bits_from
bits_split s i zero b = rw (zero-add b, add-zero i)
bits_split s i (suc a) b = rw (suc-add a b, add-suc i a, ← suc-add i a) (ap (λ (r : List Bit). bit_at s i ∷ r) (bits_split s (suc i) a b))

-- the first k of some bits, and those behind them
pub bits_take : (s : List ℕ) (i k n : ℕ) → k ≤ n → take k (bits_from s i n) ≡ bits_from s i k
bits_take s i k n h =
    let e : n ≡ k + (n - k) = omega arith in
    ap (λ (m : ℕ). take k (bits_from s i m)) e ∙ rw (bits_split s i k (n - k)) (take_at (bits_from s i k) (bits_from s (i + k) (n - k)) k (length_bits s i k))

pub bits_behind : (s : List ℕ) (i k n : ℕ) → k ≤ n → drop k (bits_from s i n) ≡ bits_from s (i + k) (n - k)
bits_behind s i k n h =
    let e : n ≡ k + (n - k) = omega arith in
    ap (λ (m : ℕ). drop k (bits_from s i m)) e ∙ rw (bits_split s i k (n - k)) (drop_at (bits_from s i k) (bits_from s (i + k) (n - k)) k (length_bits s i k))

-- a slice's bits without the first i, and a part of them
pub bits_drop : (s : List ℕ) (i m : ℕ) → i ≤ m → drop i (bits_from s 0 m) ≡ bits_from s i (m - i)
bits_drop s i m h = bits_behind s 0 i m h ∙ rw (zero-add i) refl

pub bits_part : (s : List ℕ) (i n m : ℕ) → i + n ≤ m → take n (drop i (bits_from s 0 m)) ≡ bits_from s i n
bits_part s i n m h = ap (take n) (bits_drop s i m (omega arith)) ∙ bits_take s i n (m - i) (omega arith)

pub length_field : (n v : ℕ) → length (field_bits n v) ≡ n
unfolding field_bits
length_field zero v = refl
length_field (suc n) v = ap suc (length_field n (v / 2))

pub value_lt : (bs : List Bit) → value bs < 2 ^ length bs
unfolding value
value_lt [] = lit< tt
value_lt (b ∷ bs) = omega (arith, num_lt b, value_lt bs, pow-suc 2 (length bs))

-- a number that fits its field is what the field says
pub value_field : (n v : ℕ) → v < 2 ^ n → value (field_bits n v) ≡ v
unfolding value field_bits
value_field zero v h = omega arith
value_field (suc n) v h = let e = value_field n (v / 2) (omega arith) in rw (num_bit (v % 2) (omega arith), e) (omega arith)

-- two fields end to end are one
pub field_join : (n k v w : ℕ) → v < 2 ^ n → field_bits (n + k) (v + w * 2 ^ n) ≡ field_bits n v ++ field_bits k w
unfolding field_bits
field_join zero k v w h = let z : v + w * 1 ≡ w = omega arith in rw (zero-add k, z)
field_join (suc n) k v w h =
    let d : w * 2 ^ suc n ≡ 2 * (w * 2 ^ n) = rw (pow-suc 2 n) (omega arith) in
    let q : (v + w * 2 ^ suc n) / 2 ≡ v / 2 + w * 2 ^ n = omega arith in
    let r : (v + w * 2 ^ suc n) % 2 ≡ v % 2 = omega arith in
    rw (suc-add n k, q, r) (ap (λ (bs : List Bit). to_bit (v % 2) ∷ bs) (field_join n k (v / 2) w (omega arith)))

pub field_lt : (s : List ℕ) (i n : ℕ) → field_at s i n < 2 ^ n
unfolding field_at
field_lt s i n = rw (length_bits s i n) at (value_lt (bits_from s i n))

-- one bit more, in front
pub field_more : (s : List ℕ) (i n k : ℕ) → 0 < k → k ≤ n → 2 * field_at s (i + k) (n - k) + bit_num s (i + (k - 1)) ≡ field_at s (i + (k - 1)) (n - (k - 1))
unfolding field_at bits_from value bit_at
field_more s i n k h l =
    let e : n - (k - 1) ≡ suc (n - k) = omega arith in
    let p : i + k ≡ suc (i + (k - 1)) = omega arith in
    rw (e, p, num_bit (bit_num s (i + (k - 1))) (bit_lt s (i + (k - 1)))) (omega arith)

pub length_number : (n v : ℕ) → length (number_bits n v) ≡ n
unfolding number_bits
length_number zero v = refl
length_number (suc n) v = ap suc (length_number n v)

pub high_lt : (k : ℕ) (bs : List Bit) → high_first k bs < 2 ^ k
unfolding high_first
high_lt zero bs = lit< tt
high_lt (suc k) [] = pow_pos (suc k)
high_lt (suc k) (O ∷ bs) = omega (arith, high_lt k bs)
high_lt (suc k) (I ∷ bs) = omega (arith, high_lt k bs)

pub number_lt : (s : List ℕ) (i n : ℕ) → number_at s i n < 2 ^ n
unfolding number_at
number_lt s i n = high_lt n (bits_from s i n)

-- the number that n bits say, high bit first, is the number put
pub high_number : (n v : ℕ) → high_first n (number_bits n v) ≡ v % 2 ^ n
unfolding high_first number_bits
high_number zero v = sym (mod-one v)
high_number (suc n) v = rw (num_bit (v / 2 ^ n % 2) (omega arith), high_number n v) (sym (mod-pow-add v 1 n) ∙ ap (λ (k : ℕ). v % 2 ^ k) (one-add n))

-- one bit more, behind
high_last : (n : ℕ) (s : List ℕ) (i : ℕ) → high_first (suc n) (bits_from s i (suc n)) ≡ 2 * high_first n (bits_from s i n) + bit_num s (i + n)
unfolding high_first bits_from bit_at
high_last zero s i = rw (add-zero i, num_bit (bit_num s i) (bit_lt s i)) (omega arith)
high_last (suc n) s i =
    let e : suc i + n ≡ i + suc n = omega arith in
    let r = high_last n s (suc i) in
    rw (pow-suc 2 n) (omega (arith, rw e at r))

pub number_more : (s : List ℕ) (i n : ℕ) → 2 * number_at s i n + bit_num s (i + n) ≡ number_at s i (n + 1)
unfolding number_at
number_more s i n = rw (add-one n) (sym (high_last n s i))

pub length_put : (s : List ℕ) (i : ℕ) (bs : List Bit) → length (put_bits s i bs) ≡ length s
unfolding put_bits set_bit
length_put s i [] = refl
length_put s i (b ∷ bs) = length_put (set_bit s i b) (suc i) bs ∙ length-set s (i / 8) _

pub put_append : (s : List ℕ) (i : ℕ) (xs ys : List Bit) → put_bits s i (xs ++ ys) ≡ put_bits (put_bits s i xs) (i + length xs) ys
unfolding put_bits
put_append s i [] ys = rw (add-zero i)
put_append s i (x ∷ xs) ys = rw (add-suc i (length xs), ← suc-add i (length xs)) (put_append (set_bit s i x) (suc i) xs ys)

-- one bit of a field, and what is left of it
pub put_field : (s : List ℕ) (i end w : ℕ) → i < end → put_bits (set_bit s i (to_bit (w % 2))) (i + 1) (field_bits (end - (i + 1)) (w / 2)) ≡ put_bits s i (field_bits (end - i) w)
unfolding put_bits field_bits
put_field s i end w h = let e : end - i ≡ suc (end - (i + 1)) = omega arith in rw (e, add-one i)

-- one bit of a number, and what is left of it
pub put_number : (s : List ℕ) (at n k v : ℕ) → 0 < k → k ≤ n → put_bits (set_bit s (at + (n - k)) (to_bit (v / 2 ^ (k - 1) % 2))) (at + (n - (k - 1))) (number_bits (k - 1) v) ≡ put_bits s (at + (n - k)) (number_bits k v)
unfolding put_bits number_bits
put_number s at n zero v h l = absurd (omega arith)
put_number s at n (suc k) v h l =
    let e : at + (n - k) ≡ suc (at + (n - suc k)) = omega arith in
    let f : suc k - 1 ≡ k = omega arith in
    rw (f, e)

-- one bit of a slice, and what is left of it
pub put_bits_lem : (s from : List ℕ) (at k n : ℕ) → k < n →
    put_bits (set_bit s (at + k) (to_bit (bit_num from k))) (at + (k + 1)) (bits_from from (k + 1) (n - (k + 1))) ≡ put_bits s (at + k) (bits_from from k (n - k))
unfolding put_bits bits_from bit_at
put_bits_lem s from at k n h =
    let e : n - k ≡ suc (n - (k + 1)) = omega arith in
    let f : at + (k + 1) ≡ suc (at + k) = omega arith in
    rw (e, f, add-one k)
