-- The check register of twelve bits. Assumes nothing.
use Rattle.std.specs.Prelude.{◌≡◌, List, [], ◌∷◌, ℕ, ◌+◌, ◌*◌, ◌/◌, ◌%◌, ◌<◌, get_or}
use Rattle.std.specs.Int.Bits.{bit_xor}
use Rattle.octets.specs.Bits.{Bit, num, bits_from}

-- The register r after a bit: the bit is added mod 2 to the register's top bit; the register is shifted up one, dropping
-- that top bit; where the sum was 1 the generator's twelve low coefficients, g, are added mod 2.
unfoldable pub step_of : ℕ → ℕ → Bit → ℕ
step_of g r b = bit_xor (r * 2 % 4096) (g * ((r / 2048 + num b) % 2))

-- the register after a list of bits
unfoldable pub register_after : ℕ → ℕ → List Bit → ℕ
register_after g r [] = r
register_after g r (b ∷ bs) = register_after g (step_of g r b) bs

-- the eight bits of an octet
abbrev pub octet_bits : ℕ → List Bit
octet_bits x = bits_from (x ∷ []) 0 8

-- entry i of a generator's table: the register after the bits of the octet i, from 0
unfoldable pub table_entry : ℕ → ℕ → ℕ
table_entry g i = register_after g 0 (octet_bits i)

pub record Table (g : ℕ) (t : List ℕ) : Type 0 where
  pub entry : (i : ℕ) → i < 256 → get_or t i 0 ≡ table_entry g i
