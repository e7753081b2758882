-- Texts as octets: the characters of a text, and a number in decimal. Assumes nothing.
use Rattle.std.specs.Prelude.{List, [], ◌∷◌, ◌++◌, true, false, ℕ, zero, suc, ◌+◌, ◌-◌, ◌*◌, ◌/◌, ◌%◌, ltb}
use Prim.Native.Char.{code}
use Prim.Native.String.{String, [] as none, ◌∷◌ as ◌then◌}

-- the codes of a text's characters: of a text in ASCII, its octets
unfoldable pub codes : String → List ℕ
codes none = []
codes (c then s) = code c ∷ codes s

-- a digit's octet; 48 is '0'
abbrev pub digit : ℕ → ℕ
digit d = 48 + d

-- the digits of a number in at most fuel + 1 steps: below 10 one digit, else those of its tenth and then its last one
unfoldable pub digits_in : ℕ → ℕ → List ℕ
digits_in zero n = digit n ∷ []
digits_in (suc fuel) n = elim (ltb n 10) [ true ↦ digit n ∷ [] | false ↦ digits_in fuel (n / 10) ++ (digit (n % 10) ∷ []) ]

-- a number in decimal, high digit first, with no leading 0; a number has fewer digits than it counts, so n steps are enough
unfoldable pub decimal : ℕ → List ℕ
decimal n = digits_in n n

-- the number that digits say, high digit first, behind others that say v
unfoldable pub digits_value_from : ℕ → List ℕ → ℕ
digits_value_from v [] = v
digits_value_from v (d ∷ ds) = digits_value_from (10 * v + (d - 48)) ds
