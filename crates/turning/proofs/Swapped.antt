-- An octet reversed by halves, pairs and bits: one test of all octets, against the complements of the turning table, which the checker computes.
-- Assumes nothing.
use mathlib.Core.Path.{◌≡◌, ap, ◌∙◌}
use mathlib.Core.Bool.{Bool}
use Prim.Native.Nat.{ℕ, zero, suc, ◌+◌, ◌-◌, ◌*◌, ◌/◌, ◌%◌, ◌^◌, ◌<◌, ◌≤◌}
use native.Mathlib.Nat.{pow-suc}
use native.Mathlib.Omega.{arith}
use lib.Dec.{T, eqb, eqb→eq, lit<}
use lib.Bits.{bit_and, and_le_r}
use lib.ListN.{get_or}
use Rattle.turning.specs.Turned.{reversed, turned_of}
use Rattle.basics.proofs.Numbers.{times_bit}
use Rattle.basics.proofs.Table.{at}
use Rattle.turning.proofs.Turned.{entry, entries}

-- neighbours of n bits change places; the mask has those in the low places
abbrev pub swap : ℕ → ℕ → ℕ → ℕ
swap n mask y = bit_and (y / n) mask + bit_and y mask * n

pub masked : (n mask y : ℕ) → (bit_and (y / n) mask ≤ mask) × (bit_and y mask ≤ mask)
masked n mask y = (and_le_r (y / n) mask, and_le_r y mask)

abbrev pub halves : ℕ → ℕ
halves x = x / 16 + x % 16 * 16

abbrev pub swapped : ℕ → ℕ
swapped x = swap 2 85 (swap 4 51 (halves x))

right : ℕ → ℕ → Bool
right k x = eqb (swapped k) (255 - x)

all_right : (k : ℕ) → k < 256 → T (right k (get_or entries k 0))
unfolding entries right
all_right k h = at right entries tt k h

pub reversed_lt : (n v : ℕ) → reversed n v < 2 ^ n
reversed_lt zero v = lit< tt
reversed_lt (suc n) v = omega (arith, reversed_lt n (v / 2), times_bit (2 ^ n) (v % 2) (omega arith), pow-suc 2 n)

pub swapped_is : (x : ℕ) → x < 256 → swapped x ≡ reversed 8 x
unfolding right turned_of
swapped_is x h =
    let e : swapped x ≡ 255 - get_or entries x 0 = eqb→eq (swapped x) (255 - get_or entries x 0) (all_right x h) in
    e ∙ ap (λ (y : ℕ). 255 - y) (entry x h) ∙ omega (arith, reversed_lt 8 x)
