-- Where the bits of a frame stand in a capture: bits counted from an octet on, and the octets of the frame at a bit. Assumes nothing.
use mathlib.Core.Path.{◌≡◌, refl, ap, ap₂, ◌∙◌}
use mathlib.Core.List.{List, ◌∷◌}
use Prim.Native.Nat.{ℕ, zero, suc, ◌+◌, ◌-◌, ◌*◌, ◌/◌, ◌%◌, ◌^◌, ◌<◌, ◌≤◌}
use native.Mathlib.Omega.{arith}
use lib.Dec.{eqb}
use lib.ListN.{get_or, drop}
use lib.Seq.{get_or-drop, drop-drop}
use Rattle.octets.specs.Bits.{Bit, num, to_bit, bit_num, bit_at, bits_from, high_first, number_at, packed}
use Rattle.octets.proofs.Fields.{length_bits, bits_take, bits_behind, num_at}
use Rattle.octets.proofs.Packed.{bits_packed}
use Rattle.frame.specs.Layout.{sync_number, sync_agrees}
use Rattle.capture.specs.Frames.{captured_at}

-- ---- bits from an octet on

pub bit_later : (s : List ℕ) (o i : ℕ) → bit_num (drop o s) i ≡ bit_num s (8 * o + i)
unfolding bit_num
bit_later s o i =
    let d : (8 * o + i) / 8 ≡ o + i / 8 = omega arith in
    let m : (8 * o + i) % 8 ≡ i % 8 = omega arith in
    rw (d, m, get_or-drop o s (i / 8) 0) refl

pub bits_later : (s : List ℕ) (o i n : ℕ) → bits_from (drop o s) i n ≡ bits_from s (8 * o + i) n
unfolding bits_from bit_at
bits_later s o i zero = refl
bits_later s o i (suc n) =
    let e : 8 * o + suc i ≡ suc (8 * o + i) = omega arith in
    ap₂ {C = List Bit} (λ x xs. x ∷ xs) (ap to_bit (bit_later s o i)) (bits_later s o (suc i) n ∙ ap (λ (k : ℕ). bits_from s k n) e)

-- ---- the octets of a frame

octet_of_lem : (m k : ℕ) (bs : List Bit) → k < m → get_or (packed m bs) k 0 ≡ high_first 8 (drop (8 * k) bs)
unfolding packed
octet_of_lem zero k bs h = absurd (omega arith)
octet_of_lem (suc m) zero bs h = refl
octet_of_lem (suc m) (suc k) bs h =
    let e : 8 + 8 * k ≡ 8 * suc k = omega arith in
    octet_of_lem m k (drop 8 bs) (omega arith) ∙ ap (high_first 8) (drop-drop (8 * k) 8 bs ∙ ap (λ (n : ℕ). drop n bs) e)

-- the first k bits alone say the number
front_number : (k n : ℕ) (s : List ℕ) (i : ℕ) → k ≤ n → high_first k (bits_from s i n) ≡ high_first k (bits_from s i k)
unfolding high_first bits_from
front_number zero n s i h = refl
front_number (suc k) zero s i h = absurd (omega arith)
front_number (suc k) (suc n) s i h = ap (λ (x : ℕ). num (bit_at s i) * 2 ^ k + x) (front_number k n s (suc i) (omega arith))

-- an octet of the frame at bit i, but for the last, is eight bits
pub frame_octet : (s : List ℕ) (i k : ℕ) → k < 73 → get_or (captured_at s i) k 0 ≡ number_at s (i + 8 * k) 8
unfolding number_at
frame_octet s i k h =
    octet_of_lem 74 k (bits_from s i 585) (omega arith) ∙ ap (high_first 8) (bits_behind s i (8 * k) 585 (omega arith))
    ∙ front_number 8 (585 - 8 * k) s (i + 8 * k) (omega arith)

-- the last is one bit, and seven of padding
pub frame_last : (s : List ℕ) (i : ℕ) → get_or (captured_at s i) 73 0 ≡ bit_num s (i + 584) * 128
unfolding high_first bits_from
frame_last s i =
    octet_of_lem 74 73 (bits_from s i 585) (omega arith) ∙ ap (high_first 8) (bits_behind s i 584 585 (omega arith)) ∙ omega (arith, num_at s (i + 584))

-- its first 24 bits are those of the capture
pub sync_at : (s : List ℕ) (i : ℕ) → sync_agrees (captured_at s i) ≡ eqb (number_at s i 24) sync_number
unfolding sync_agrees number_at
sync_at s i =
    ap (λ (bs : List Bit). eqb (high_first 24 bs) sync_number)
    (bits_packed 74 0 24 (bits_from s i 585) (omega (arith, length_bits s i 585)) (omega (arith, length_bits s i 585)) ∙ bits_take s i 24 585 (omega arith))
