-- Bits packed into octets: what is put behind the bits held is held, and each bit is read back. Assumes nothing.
-- An octet is the number of its eight bits, high bit first; a bit is set by adding its weight, since it was 0.
use mathlib.Core.Path.{◌≡◌, refl, sym, ap, ap₂, ◌∙◌}
use mathlib.Core.List.{List, [], ◌∷◌, ◌++◌, append_assoc}
use Prim.Native.Nat.{ℕ, zero, suc, ◌+◌, ◌-◌, ◌*◌, ◌/◌, ◌%◌, ◌^◌, ◌<◌, ◌≤◌}
use native.Mathlib.Nat.{mul-mod_left, zero-add, suc-add, zero-div, zero-mod, mul-add-div_right, zero-mul, pow-suc}
use native.Mathlib.Numerals.{add-one}
use native.Mathlib.Decide.{dec_lt}
use native.Mathlib.Omega.{arith}
use lib.Dec.{lit<}
use lib.Pow.{pow_pos, pow-add, shl-shr, high}
use lib.ListN.{length, get_or, take, drop, replicate, length-append, length-drop, length-replicate, drop_of_length-le}
use lib.Seq.{ext_get_or, drop-append-le, get_or-drop, drop-cons, take_at, drop_at}
use Rattle.octets.specs.Bits.{Bit, O, num, bit_num, bit_at, bits_from, value, field_bits, field_at, high_first, packed, with_bit, set_bit, put_bits, Free}
use Rattle.octets.proofs.Fields.{num_lt, bit_num_lem, high_lt, length_bits, length_field, value_field, field_join}
use Rattle.basics.proofs.Padding.{behind_default}
use Rattle.octets.proofs.BitsEqual.{bit_at_lem, octets_same}

-- ---- one octet

high_nil : (k : ℕ) → high_first k [] ≡ 0
unfolding high_first
high_nil zero = refl
high_nil (suc k) = refl

-- one bit more, behind r bits
high_more : (bs : List Bit) (k j : ℕ) (b : Bit) → k ≡ length bs + suc j → high_first k (bs ++ b ∷ []) ≡ high_first k bs + num b * 2 ^ j
unfolding high_first
high_more [] zero j b e = absurd (omega arith)
high_more [] (suc k) j b e = let f : k ≡ j = omega arith in rw (high_nil k, f) (omega arith)
high_more (a ∷ bs) zero j b e = absurd (omega arith)
high_more (a ∷ bs) (suc k) j b e = let r = high_more bs k j b (omega arith) in rw r (omega arith)

-- bits past the end are 0
high_padded : (bs : List Bit) (k r j : ℕ) → length bs ≤ r → k ≡ r + j → high_first k bs ≡ high_first r bs * 2 ^ j
unfolding high_first
high_padded [] k r j h e = rw (high_nil k, high_nil r) (sym (zero-mul (2 ^ j)))
high_padded (a ∷ bs) k zero j h e = absurd (omega arith)
high_padded (a ∷ bs) zero (suc r) j h e = absurd (omega arith)
high_padded (a ∷ bs) (suc k) (suc r) j h e =
    let f : k ≡ r + j = omega arith in
    rw (high_padded bs k r j (omega arith) f, f, pow-add 2 r j) (omega arith)

high_append : (k : ℕ) (bs cs : List Bit) → k ≤ length bs → high_first k (bs ++ cs) ≡ high_first k bs
unfolding high_first
high_append zero bs cs h = refl
high_append (suc k) [] cs h = absurd (omega arith)
high_append (suc k) (b ∷ bs) cs h = ap (λ (x : ℕ). num b * 2 ^ k + x) (high_append k bs cs (omega arith))

-- the bit behind r bits is set
high_set : (bs : List Bit) (r k : ℕ) (b : Bit) → length bs ≡ r → 8 ≡ r + suc k → with_bit (high_first 8 bs) k (num b) ≡ high_first 8 (bs ++ b ∷ [])
unfolding with_bit
high_set bs r k b h e =
    let y : ℕ = high_first r bs in
    let x : high_first 8 bs ≡ y * 2 ^ (k + 1) = high_padded bs 8 r (k + 1) (omega arith) (omega arith) in
    let z : y * 2 ^ (k + 1) ≡ y * 2 * 2 ^ k = rw (add-one k, pow-suc 2 k) (omega arith) in
    rw (high_more bs 8 k b (omega arith), x, shl-shr y (k + 1))
    (ap (λ (n : ℕ). y * 2 ^ (k + 1) + num b * 2 ^ k + n) (ap (λ (n : ℕ). n % 2 ^ k) z ∙ mul-mod_left (y * 2) (2 ^ k)) ∙ omega arith)

-- bit r
high_bit : (bs : List Bit) (r k j : ℕ) → k ≡ r + suc j → high_first k bs / 2 ^ j % 2 ≡ num (get_or bs r O)
unfolding high_first
high_bit [] r k j e = rw (high_nil k, zero-div, zero-mod)
high_bit (a ∷ bs) r zero j e = absurd (omega arith)
high_bit (a ∷ bs) zero (suc k) j e =
    let f : k ≡ j = omega arith in
    rw (f, high (num a) j {lo = high_first j bs} (high_lt j bs)) (omega (arith, num_lt a))
high_bit (a ∷ bs) (suc r) (suc k) j e =
    let f : k ≡ r + suc j = omega arith in
    let p : num a * 2 ^ k ≡ num a * 2 ^ r * 2 * 2 ^ j = rw (f, pow-add 2 r (suc j), pow-suc 2 j) (omega arith) in
    let d : (num a * 2 ^ k + high_first k bs) / 2 ^ j ≡ num a * 2 ^ r * 2 + high_first k bs / 2 ^ j = rw p (mul-add-div_right (pow_pos j) (num a * 2 ^ r * 2) (high_first k bs)) in
    rw d (omega (arith, high_bit bs r k j f))

-- A replaced bit leaves an octet.
pub with_lt : (x k b : ℕ) → x < 256 → k < 8 → b < 2 → with_bit x k b < 256
unfolding with_bit
with_lt x zero b h l m = omega arith
with_lt x (suc zero) b h l m = omega arith
with_lt x (suc (suc zero)) b h l m = omega arith
with_lt x (suc (suc (suc zero))) b h l m = omega arith
with_lt x (suc (suc (suc (suc zero)))) b h l m = omega arith
with_lt x (suc (suc (suc (suc (suc zero))))) b h l m = omega arith
with_lt x (suc (suc (suc (suc (suc (suc zero)))))) b h l m = omega arith
with_lt x (suc (suc (suc (suc (suc (suc (suc zero))))))) b h l m = omega arith
with_lt x (suc (suc (suc (suc (suc (suc (suc (suc k)))))))) b h l m = absurd (omega arith)

-- ---- octets

pub length_packed : (m : ℕ) (bs : List Bit) → length (packed m bs) ≡ m
unfolding packed
length_packed zero bs = refl
length_packed (suc m) bs = ap suc (length_packed m (drop 8 bs))

pub octet_packed : (m : ℕ) (bs : List Bit) (k : ℕ) → get_or (packed m bs) k 0 < 256
unfolding packed
octet_packed zero bs k = lit< tt
octet_packed (suc m) bs zero = high_lt 8 bs
octet_packed (suc m) bs (suc k) = octet_packed m (drop 8 bs) k

-- the bit behind those held is set
set_packed : (m i : ℕ) (bs : List Bit) (b : Bit) → length bs ≡ i → i < 8 * m → set_bit (packed m bs) i b ≡ packed m (bs ++ b ∷ [])
unfolding set_bit packed
set_packed zero i bs b e h = absurd (omega arith)
set_packed (suc m) i bs b e h = go (dec_lt i 8) (set_packed m (i - 8) (drop 8 bs) b (length-drop 8 bs ∙ ap (λ (n : ℕ). n - 8) e))
  where
    go : Dec (i < 8) → (i - 8 < 8 * m → set_bit (packed m (drop 8 bs)) (i - 8) b ≡ packed m (drop 8 bs ++ b ∷ [])) → set_bit (packed (suc m) bs) i b ≡ packed (suc m) (bs ++ b ∷ [])
    go (yes l) ih =
        let q : i / 8 ≡ 0 = omega arith in
        let r : i % 8 ≡ i = omega arith in
        let n = length-append bs (b ∷ []) in
        rw (q, r)
        (ap₂ ◌∷◌ (high_set bs i (7 - i) b e (omega arith))
        (ap (packed m) (drop_of_length-le bs {i = 8} (omega arith) ∙ sym (drop_of_length-le (bs ++ b ∷ []) {i = 8} (omega arith)))))
    go (no l) ih =
        let q : i / 8 ≡ suc ((i - 8) / 8) = omega arith in
        let r : i % 8 ≡ (i - 8) % 8 = omega arith in
        rw (q, r, high_append 8 bs (b ∷ []) (omega arith), drop-append-le 8 bs (b ∷ []) (omega arith))
        (ap (λ (t : List ℕ). high_first 8 bs ∷ t) (ih (omega arith)))

-- Whatever bits the octets hold, bits put behind them are held too.
pub put_packed : (m i : ℕ) (bs cs : List Bit) → length bs ≡ i → i + length cs ≤ 8 * m → put_bits (packed m bs) i cs ≡ packed m (bs ++ cs)
unfolding put_bits
put_packed m i bs [] e h = ap (packed m) (sym (mathlib.Core.List.append-nil bs))
put_packed m i bs (c ∷ cs) e h =
    let n = length-append bs (c ∷ []) in
    rw (set_packed m i bs c e (omega arith))
    (put_packed m (suc i) (bs ++ c ∷ []) cs (omega arith) (omega arith) ∙ ap (packed m) (append_assoc bs (c ∷ []) cs))

-- Behind the bits held there are none.
pub free_packed : (m i : ℕ) (bs : List Bit) → length bs ≡ i → Free (packed m bs) i
unfolding packed
free_packed zero i bs e = record { own = zero-mod (2 ^ (8 - i % 8)); behind = refl }
free_packed (suc m) i bs e = go (dec_lt i 8) (free_packed m (i - 8) (drop 8 bs) (length-drop 8 bs ∙ ap (λ (n : ℕ). n - 8) e))
  where
    go : Dec (i < 8) → Free (packed m (drop 8 bs)) (i - 8) → Free (packed (suc m) bs) i
    go (yes l) f =
        let q : i / 8 ≡ 0 = omega arith in
        let r : i % 8 ≡ i = omega arith in
        let z : i - 8 ≡ 0 = omega arith in
        record {
          own = rw (q, r, high_padded bs 8 i (8 - i) (omega arith) (omega arith)) (mul-mod_left (high_first i bs) (2 ^ (8 - i)));
          behind = rw q (omega (arith, octet_packed m (drop 8 bs) 0, rw z at f.own));
        }
    go (no l) f =
        let q : i / 8 ≡ suc ((i - 8) / 8) = omega arith in
        let r : i % 8 ≡ (i - 8) % 8 = omega arith in
        record { own = rw (q, r) f.own; behind = rw (q, suc-add ((i - 8) / 8) 1) f.behind }

pub bit_packed : (m i : ℕ) (bs : List Bit) → i < 8 * m → bit_num (packed m bs) i ≡ num (get_or bs i O)
unfolding bit_num packed
bit_packed zero i bs h = absurd (omega arith)
bit_packed (suc m) i bs h = go (dec_lt i 8) (bit_packed m (i - 8) (drop 8 bs))
  where
    go : Dec (i < 8) → (i - 8 < 8 * m → bit_num (packed m (drop 8 bs)) (i - 8) ≡ num (get_or (drop 8 bs) (i - 8) O)) → bit_num (packed (suc m) bs) i ≡ num (get_or bs i O)
    go (yes l) ih =
        let q : i / 8 ≡ 0 = omega arith in
        let r : i % 8 ≡ i = omega arith in
        rw (q, r) (high_bit bs i 8 (7 - i) (omega arith))
    go (no l) ih =
        let q : i / 8 ≡ suc ((i - 8) / 8) = omega arith in
        let r : i % 8 ≡ (i - 8) % 8 = omega arith in
        let p : 8 + (i - 8) ≡ i = omega arith in
        rw (q, r) (ih (omega arith) ∙ ap num (get_or-drop 8 bs (i - 8) O ∙ ap (λ (n : ℕ). get_or bs n O) p))

field_none : (n : ℕ) → field_bits n 0 ≡ replicate n O
unfolding field_bits
field_none zero = refl
field_none (suc n) = ap (λ (r : List Bit). O ∷ r) (field_none n)

-- Bits that are 0 behind those held change nothing.
zeros_packed : (m n : ℕ) (bs : List Bit) → packed m (bs ++ field_bits n 0) ≡ packed m bs
zeros_packed m n bs = rw (field_none n)
    (octets_same (packed m (bs ++ replicate n O)) (packed m bs) (length_packed m (bs ++ replicate n O) ∙ sym (length_packed m bs)) (octet_packed m (bs ++ replicate n O)) (octet_packed m bs) λ t h.
    let l : t < 8 * m = rw (length_packed m (bs ++ replicate n O)) at h in
    bit_packed m t (bs ++ replicate n O) l ∙ ap num (behind_default bs n O t) ∙ sym (bit_packed m t bs l))

-- Of eight bits put behind those held, only those that a number needs count.
pub append_packed : (m i n v : ℕ) (bs : List Bit) → length bs ≡ i → i + 8 ≤ 8 * m → n ≤ 8 → v < 2 ^ n → put_bits (packed m bs) i (field_bits 8 v) ≡ packed m (bs ++ field_bits n v)
append_packed m i n v bs e h l k =
    let f : 8 ≡ n + (8 - n) = omega arith in
    let z : v ≡ v + 0 * 2 ^ n = omega arith in
    let b : field_bits 8 v ≡ field_bits n v ++ field_bits (8 - n) 0 = ap₂ field_bits f z ∙ field_join n (8 - n) v 0 k in
    put_packed m i bs (field_bits 8 v) e (omega (arith, length_field 8 v)) ∙ rw (b, ← append_assoc bs (field_bits n v) (field_bits (8 - n) 0)) (zeros_packed m (8 - n) (bs ++ field_bits n v))

-- The bits held are read back.
pub bits_packed : (m i n : ℕ) (bs : List Bit) → i + n ≤ length bs → length bs ≤ 8 * m → bits_from (packed m bs) i n ≡ take n (drop i bs)
unfolding bits_from bit_at
bits_packed m i zero bs h l = refl
bits_packed m i (suc n) bs h l =
    rw (bit_packed m i bs (omega arith), bit_num_lem (get_or bs i O), drop-cons bs i O (omega arith))
    (ap (λ (r : List Bit). get_or bs i O ∷ r) (bits_packed m (suc i) n bs (omega arith) l))

-- A part of the bits held, between others.
pub part_packed : (m i : ℕ) (xs ys zs : List Bit) → length xs ≡ i → length (xs ++ (ys ++ zs)) ≤ 8 * m → bits_from (packed m (xs ++ (ys ++ zs))) i (length ys) ≡ ys
part_packed m i xs ys zs e h =
    let n = length-append xs (ys ++ zs) in
    let k = length-append ys zs in
    bits_packed m i (length ys) (xs ++ (ys ++ zs)) (omega arith) h ∙ rw (drop_at xs (ys ++ zs) i e) (take_at ys zs (length ys) refl)

-- A number put as a field of n bits is read back.
pub field_packed : (m i n v : ℕ) (xs zs : List Bit) → length xs ≡ i → v < 2 ^ n → length (xs ++ (field_bits n v ++ zs)) ≤ 8 * m → field_at (packed m (xs ++ (field_bits n v ++ zs))) i n ≡ v
unfolding field_at
field_packed m i n v xs zs e l h =
    ap value (ap (bits_from (packed m (xs ++ (field_bits n v ++ zs))) i) (sym (length_field n v)) ∙ part_packed m i xs (field_bits n v) zs e h) ∙ value_field n v l

-- Octets that hold no bits are 0.
pub packed_none : (m : ℕ) → packed m [] ≡ replicate m 0
unfolding packed high_first
packed_none zero = refl
packed_none (suc m) = ap (λ (l : List ℕ). 0 ∷ l) (packed_none m)

-- All bits of the octets: those held, and 0 behind them.
pub all_packed : (m : ℕ) (bs : List Bit) → length bs ≤ 8 * m → bits_from (packed m bs) 0 (8 * m) ≡ bs ++ replicate (8 * m - length bs) O
all_packed m bs h =
    ext_get_or O (bits_from (packed m bs) 0 (8 * m)) (bs ++ replicate (8 * m - length bs) O)
    (length_bits (packed m bs) 0 (8 * m) ∙ sym (simp (length-append, length-replicate) (omega arith))) λ k l.
    let j : k < 8 * m = rw (length_bits (packed m bs) 0 (8 * m)) at l in
    bit_at_lem (packed m bs) 0 (8 * m) k j ∙ unfold bit_at in rw (zero-add k, bit_packed m k bs j, bit_num_lem (get_or bs k O)) (sym (behind_default bs (8 * m - length bs) O k))
