-- Laws of the register. Assumes nothing.
-- The register is linear: a step of sums is the sum of steps. So an octet's effect on a register is that of the octet added to the
-- register's top eight bits, from 0, which a table holds, and of the top bits themselves, which only shift the register.
use mathlib.Core.Path.{◌≡◌, refl, ap, ap₂, sym, ◌∙◌}
use mathlib.Core.List.{List, [], ◌∷◌, ◌++◌}
use Prim.Native.Nat.{ℕ, zero, suc, ◌+◌, ◌-◌, ◌*◌, ◌/◌, ◌%◌, ◌^◌, ◌<◌, ◌≤◌}
use native.Mathlib.Nat.{mod-add-mod, add-mod-mod, add-mod, mul_assoc, mul-zero, mul-one, mul_comm}
use native.Mathlib.Omega.{arith}
use lib.Dec.{lit<}
use lib.Bits.{bit_xor, xor_zero_l, xor_zero_r, xor_lt, xor_shr, xor_mod, xor_self}
use lib.ListN.{length, get_or}
use Rattle.octets.specs.Bits.{Bit, O, I, num, to_bit, bit_num, bit_at, bits_from, number_bits}
use Rattle.octets.proofs.Fields.{num_lt, num_bit, length_bits, bits_split}
use Rattle.basics.proofs.Numbers.{times_bit}
use Rattle.register.specs.Register.{step_of, register_after, octet_bits, table_entry}
use Rattle.register.proofs.Xor.{bits_xor, xor_swap, xor_twice}
use Rattle.basics.proofs.Bitwise.{xor_bit}

pub times_lt : (g b : ℕ) → g < 4096 → b < 2 → g * b < 4096
times_lt g b h l = omega (arith, times_bit g b l, mul_comm g b)

pub step_lt : (g r : ℕ) (b : Bit) → g < 4096 → step_of g r b < 4096
unfolding step_of
step_lt g r b h = xor_lt 12 (r * 2 % 4096) (g * ((r / 2048 + num b) % 2)) (omega arith) (times_lt g ((r / 2048 + num b) % 2) h (omega arith))

pub check_lt : (g r : ℕ) (bs : List Bit) → g < 4096 → r < 4096 → register_after g r bs < 4096
unfolding register_after
check_lt g r [] h l = l
check_lt g r (b ∷ bs) h l = check_lt g (step_of g r b) bs h (step_lt g r b h)

pub entry_lt : (g i : ℕ) → g < 4096 → table_entry g i < 4096
unfolding table_entry
entry_lt g i h = check_lt g 0 (octet_bits i) h (lit< tt)

check_append : (g r : ℕ) (bs cs : List Bit) → register_after g r (bs ++ cs) ≡ register_after g (register_after g r bs) cs
unfolding register_after
check_append g r [] cs = refl
check_append g r (b ∷ bs) cs = check_append g (step_of g r b) bs cs

-- one bit more of a slice, and none left
pub check_more : (g r : ℕ) (s : List ℕ) (i end : ℕ) → i < end → register_after g (step_of g r (to_bit (bit_num s i))) (bits_from s (i + 1) (end - (i + 1))) ≡ register_after g r (bits_from s i (end - i))
unfolding register_after bits_from bit_at
check_more g r s i end h =
    let z : end - i ≡ suc (end - (i + 1)) = omega arith in
    let e : i + 1 ≡ suc i = omega arith in
    rw (z, e)

pub check_end : (g r : ℕ) (s : List ℕ) (i end : ℕ) → end ≤ i → register_after g r (bits_from s i (end - i)) ≡ r
unfolding register_after bits_from
check_end g r s i end h = let z : end - i ≡ 0 = omega arith in rw z

-- ---- linearity

add : Bit → Bit → Bit
add O c = c
add I O = I
add I I = O

num_add : (b c : Bit) → num (add b c) ≡ (num b + num c) % 2
unfolding add
num_add O O = refl
num_add O I = refl
num_add I O = refl
num_add I I = refl

adds : List Bit → List Bit → List Bit
unfolding add
adds [] cs = []
adds (b ∷ bs) [] = []
adds (b ∷ bs) (c ∷ cs) = add b c ∷ adds bs cs

-- the generator as often as two bits say
times_xor : (g x y : ℕ) → x < 2 → y < 2 → bit_xor (g * x) (g * y) ≡ g * ((x + y) % 2)
times_xor g zero y h l = rw (mul-zero g) (xor_zero_l (g * y) ∙ ap (λ (z : ℕ). g * z) (omega arith))
times_xor g (suc zero) zero h l = rw (mul-zero g) (xor_zero_r (g * 1))
times_xor g (suc zero) (suc zero) h l = xor_self (g * 1) ∙ sym (mul-zero g)
times_xor g (suc zero) (suc (suc y)) h l = absurd (omega arith)
times_xor g (suc (suc x)) y h l = absurd (omega arith)

step_xor : (g r q : ℕ) (b c : Bit) → r < 4096 → q < 4096 → step_of g (bit_xor r q) (add b c) ≡ bit_xor (step_of g r b) (step_of g q c)
unfolding step_of
step_xor g r q b c h l =
    ap₂ bit_xor (ap (λ (x : ℕ). x % 4096) (sym (xor_twice r q)) ∙ xor_mod (r * 2) (q * 2) 12)
    (ap (λ (x : ℕ). g * x) top ∙ sym (times_xor g ((r / 2048 + num b) % 2) ((q / 2048 + num c) % 2) (omega arith) (omega arith)))
    ∙ xor_swap (r * 2 % 4096) (q * 2 % 4096) (g * ((r / 2048 + num b) % 2)) (g * ((q / 2048 + num c) % 2))
  where
    top : (bit_xor r q / 2048 + num (add b c)) % 2 ≡ ((r / 2048 + num b) % 2 + (q / 2048 + num c) % 2) % 2
    top =
        let e : bit_xor r q / 2048 ≡ (r / 2048 + q / 2048) % 2 = xor_shr r q 11 ∙ bits_xor (r / 2048) (q / 2048) (omega arith) (omega arith) in
        rw (e, num_add b c) (simp (mod-add-mod, add-mod-mod) (ap (λ (x : ℕ). x % 2) (omega arith)))

check_xor : (g r q : ℕ) (bs cs : List Bit) → length bs ≡ length cs → g < 4096 → r < 4096 → q < 4096 → register_after g (bit_xor r q) (adds bs cs) ≡ bit_xor (register_after g r bs) (register_after g q cs)
unfolding register_after adds
check_xor g r q [] [] e k h l = refl
check_xor g r q [] (c ∷ cs) e k h l = absurd (omega (arith, e))
check_xor g r q (b ∷ bs) [] e k h l = absurd (omega (arith, e))
check_xor g r q (b ∷ bs) (c ∷ cs) e k h l =
    ap (λ (x : ℕ). register_after g x (adds bs cs)) (step_xor g r q b c h l)
    ∙ check_xor g (step_of g r b) (step_of g q c) bs cs (omega (arith, e)) k (step_lt g r b k) (step_lt g q c k)

-- ---- the bits of an octet

-- the last n bits of octet i of a slice
octet_at : (s : List ℕ) (i n : ℕ) → n ≤ 8 → bits_from s (8 * i + (8 - n)) n ≡ number_bits n (get_or s i 0)
unfolding bits_from bit_at bit_num number_bits
octet_at s i zero h = refl
octet_at s i (suc n) h =
    let q : (8 * i + (8 - suc n)) / 8 ≡ i = omega arith in
    let r : 7 - (8 * i + (8 - suc n)) % 8 ≡ n = omega arith in
    let e : suc (8 * i + (8 - suc n)) ≡ 8 * i + (8 - n) = omega arith in
    rw (q, r, e) (ap (λ (t : List Bit). to_bit (get_or s i 0 / 2 ^ n % 2) ∷ t) (octet_at s i n (omega arith)))

octet_high : (s : List ℕ) (i : ℕ) → bits_from s (8 * i) 8 ≡ number_bits 8 (get_or s i 0)
octet_high s i = let e : 8 * i + (8 - 8) ≡ 8 * i = omega arith in rw e at (octet_at s i 8 (lit< tt))

pub octet_bits_lem : (s : List ℕ) (i : ℕ) → bits_from s (8 * i) 8 ≡ octet_bits (get_or s i 0)
octet_bits_lem s i = octet_high s i ∙ sym (octet_high (get_or s i 0 ∷ []) 0)

added : (a b : ℕ) → a < 2 → b < 2 → add (to_bit ((a + b) % 2)) (to_bit a) ≡ to_bit b
unfolding add
added zero zero h l = refl
added zero (suc zero) h l = refl
added (suc zero) zero h l = refl
added (suc zero) (suc zero) h l = refl
added zero (suc (suc b)) h l = absurd (omega arith)
added (suc zero) (suc (suc b)) h l = absurd (omega arith)
added (suc (suc a)) b h l = absurd (omega arith)

-- bits are their sum with others, and those others
high_back : (n x y : ℕ) → adds (number_bits n (bit_xor x y)) (number_bits n x) ≡ number_bits n y
unfolding adds number_bits
high_back zero x y = refl
high_back (suc n) x y = ap₂ ◌∷◌ (rw (xor_bit x y n) (added (x / 2 ^ n % 2) (y / 2 ^ n % 2) (omega arith) (omega arith))) (high_back n x y)

octet_back : (x y : ℕ) → adds (octet_bits (bit_xor x y)) (octet_bits x) ≡ octet_bits y
octet_back x y = rw (octet_high (bit_xor x y ∷ []) 0, octet_high (x ∷ []) 0, octet_high (y ∷ []) 0) (high_back 8 x y)

-- ---- bits that equal the register's top bits only shift it

shift_at : (g x : ℕ) (b : Bit) → x / 2048 ≡ num b → step_of g x b ≡ x * 2 % 4096
unfolding step_of
shift_at g x b e =
    let z : (x / 2048 + num b) % 2 ≡ 0 = omega (arith, num_lt b) in
    rw (z, mul-zero g) (xor_zero_r (x * 2 % 4096))

twice_mod : (x : ℕ) → x % 4096 * 2 % 4096 ≡ x * 2 % 4096
twice_mod x =
    let e : x % 4096 * 2 ≡ x % 4096 + x % 4096 = omega arith in
    let f : x * 2 ≡ x + x = omega arith in
    rw (e, f) (sym (add-mod x x 4096))

shift_more : (g r u v : ℕ) (b : Bit) → v ≡ u * 2 → r * u % 4096 / 2048 ≡ num b → step_of g (r * u % 4096) b ≡ r * v % 4096
shift_more g r u v b e f = shift_at g (r * u % 4096) b f ∙ twice_mod (r * u) ∙ ap (λ (x : ℕ). x % 4096) (mul_assoc r u 2 ∙ ap (λ (x : ℕ). r * x) (sym e))

shifts : (g r : ℕ) → r < 4096 → register_after g r (number_bits 8 (r / 16)) ≡ r * 256 % 4096
unfolding register_after number_bits
shifts g r h =
    let bit : (n : ℕ) → num (to_bit (r / 16 / 2 ^ n % 2)) ≡ r / 16 / 2 ^ n % 2 = λ n. num_bit (r / 16 / 2 ^ n % 2) (omega arith) in
    rw (shift_at g r (to_bit (r / 16 / 2 ^ 7 % 2)) (omega (arith, bit 7)))
    (rw (shift_more g r 2 4 (to_bit (r / 16 / 2 ^ 6 % 2)) refl (omega (arith, bit 6)))
    (rw (shift_more g r 4 8 (to_bit (r / 16 / 2 ^ 5 % 2)) refl (omega (arith, bit 5)))
    (rw (shift_more g r 8 16 (to_bit (r / 16 / 2 ^ 4 % 2)) refl (omega (arith, bit 4)))
    (rw (shift_more g r 16 32 (to_bit (r / 16 / 2 ^ 3 % 2)) refl (omega (arith, bit 3)))
    (rw (shift_more g r 32 64 (to_bit (r / 16 / 2 ^ 2 % 2)) refl (omega (arith, bit 2)))
    (rw (shift_more g r 64 128 (to_bit (r / 16 / 2 ^ 1 % 2)) refl (omega (arith, bit 1)))
    (shift_more g r 128 256 (to_bit (r / 16 / 2 ^ 0 % 2)) refl (omega (arith, bit 0)))))))))

-- ---- an octet at a time

check_octet : (g r x : ℕ) → g < 4096 → r < 4096 → register_after g r (octet_bits x) ≡ bit_xor (table_entry g (bit_xor (r / 16) x)) (r * 256 % 4096)
unfolding table_entry
check_octet g r x k h =
    ap₂ (register_after g) (sym (xor_zero_l r)) (sym (octet_back (r / 16) x))
    ∙ check_xor g 0 r (octet_bits (bit_xor (r / 16) x)) (octet_bits (r / 16)) (length_bits _ 0 8 ∙ sym (length_bits _ 0 8)) k (lit< tt) h
    ∙ ap (bit_xor (table_entry g (bit_xor (r / 16) x))) (ap (register_after g r) (octet_high (r / 16 ∷ []) 0) ∙ shifts g r h)

-- an octet more of a slice
pub check_octets : (g r x : ℕ) (s : List ℕ) (i end : ℕ) → g < 4096 → r < 4096 → 8 * i + 8 ≤ end → x ≡ bit_xor (table_entry g (bit_xor (r / 16) (get_or s i 0))) (r * 256 % 4096)
    → register_after g x (bits_from s (8 * (i + 1)) (end - 8 * (i + 1))) ≡ register_after g r (bits_from s (8 * i) (end - 8 * i))
check_octets g r x s i end k h l e =
    let z : end - 8 * i ≡ 8 + (end - 8 * (i + 1)) = omega arith in
    let y : 8 * i + 8 ≡ 8 * (i + 1) = omega arith in
    ap (λ (n : ℕ). register_after g n (bits_from s (8 * (i + 1)) (end - 8 * (i + 1)))) (e ∙ sym (check_octet g r (get_or s i 0) k h))
    ∙ sym (rw (z, bits_split s (8 * i) 8 (end - 8 * (i + 1)), y, octet_bits_lem s i) (check_append g r (octet_bits (get_or s i 0)) (bits_from s (8 * (i + 1)) (end - 8 * (i + 1)))))

-- The paper's case: the one bit 1 from 0 gives the generator.
pub one_bit : (g : ℕ) → register_after g 0 (I ∷ []) ≡ g
unfolding register_after step_of
one_bit g = xor_zero_l (g * 1) ∙ mul-one g
