-- Bits of octets, the high bit of each octet first, and numbers sent as fields of bits, low bit first. Assumes nothing.
use Rattle.std.specs.Prelude.{◌≡◌, List, [], ◌∷◌, ℕ, zero, suc, ◌+◌, ◌-◌, ◌*◌, ◌/◌, ◌%◌, ◌^◌, get_or, set, drop}

pub data Bit : Type 0 where
  O I : Bit

abbrev pub num : Bit → ℕ
num O = 0
num I = 1

abbrev pub to_bit : ℕ → Bit
to_bit zero = O
to_bit (suc n) = I

-- bit i of octets as a number: the high bit of octet 0 is bit 0; 0 past the end
unfoldable pub bit_num : List ℕ → ℕ → ℕ
bit_num s i = get_or s (i / 8) 0 / 2 ^ (7 - i % 8) % 2

unfoldable pub bit_at : List ℕ → ℕ → Bit
bit_at s i = to_bit (bit_num s i)

-- the n bits from bit i on
unfoldable pub bits_from : List ℕ → ℕ → ℕ → List Bit
bits_from s i zero = []
bits_from s i (suc n) = bit_at s i ∷ bits_from s (suc i) n

-- the number that bits say, low bit first
unfoldable pub value : List Bit → ℕ
value [] = 0
value (b ∷ bs) = num b + 2 * value bs

-- a number as a field of n bits, low bit first
unfoldable pub field_bits : ℕ → ℕ → List Bit
field_bits zero v = []
field_bits (suc n) v = to_bit (v % 2) ∷ field_bits n (v / 2)

-- the first k bits as a number, high bit first; bits past the end are 0
unfoldable pub high_first : ℕ → List Bit → ℕ
high_first zero bs = 0
high_first (suc k) [] = 0
high_first (suc k) (b ∷ bs) = num b * 2 ^ k + high_first k bs

-- the field of n bits at bit i
unfoldable pub field_at : List ℕ → ℕ → ℕ → ℕ
field_at s i n = value (bits_from s i n)

-- the number of n bits at bit i, high bit first
unfoldable pub number_at : List ℕ → ℕ → ℕ → ℕ
number_at s i n = high_first n (bits_from s i n)

-- a number as n bits, high bit first
unfoldable pub number_bits : ℕ → ℕ → List Bit
number_bits zero v = []
number_bits (suc n) v = to_bit (v / 2 ^ n % 2) ∷ number_bits n v

-- bits as m octets; bits past the end are 0
unfoldable pub packed : ℕ → List Bit → List ℕ
packed zero bs = []
packed (suc m) bs = high_first 8 bs ∷ packed m (drop 8 bs)

-- an octet with its bit of weight 2 ^ k replaced
unfoldable pub with_bit : ℕ → ℕ → ℕ → ℕ
with_bit x k b = x / 2 ^ (k + 1) * 2 ^ (k + 1) + b * 2 ^ k + x % 2 ^ k

-- an octet with the n bits before its last m replaced by those of v
unfoldable pub with_bits : ℕ → ℕ → ℕ → ℕ → ℕ
with_bits y m n v = y / 2 ^ (n + m) * 2 ^ (n + m) + v % 2 ^ n * 2 ^ m + y % 2 ^ m

-- octets with bit i replaced; as they were where there is no bit i
unfoldable pub set_bit : List ℕ → ℕ → Bit → List ℕ
set_bit s i b = set s (i / 8) (with_bit (get_or s (i / 8) 0) (7 - i % 8) (num b))

-- octets with the bits from bit i on replaced
unfoldable pub put_bits : List ℕ → ℕ → List Bit → List ℕ
put_bits s i [] = s
put_bits s i (b ∷ bs) = put_bits (set_bit s i b) (suc i) bs

-- the bits from bit i on are 0, in its octet and in the one behind it
pub record Free (s : List ℕ) (i : ℕ) : Type 0 where
  pub own : get_or s (i / 8) 0 % 2 ^ (8 - i % 8) ≡ 0
  pub behind : get_or s (i / 8 + 1) 0 ≡ 0
