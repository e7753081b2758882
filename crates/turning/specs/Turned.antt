-- The turning of octets: a stored octet is the complement of the sent one with its bits reversed. Assumes nothing.
use Rattle.std.specs.Prelude.{◌≡◌, List, [], ◌∷◌, ℕ, zero, suc, ◌+◌, ◌-◌, ◌*◌, ◌/◌, ◌%◌, ◌^◌, ◌<◌, get_or}

-- the n low bits of x in reverse order
abbrev pub reversed : ℕ → ℕ → ℕ
reversed zero x = 0
reversed (suc n) x = x % 2 * 2 ^ n + reversed n (x / 2)

unfoldable pub turned_of : ℕ → ℕ
turned_of x = 255 - reversed 8 x

-- a table of all octets turned
abbrev pub Turning : List ℕ → Type 0
Turning t = (x : ℕ) → x < 256 → get_or t x 0 ≡ turned_of x

-- n octets from octet i on, each turned
unfoldable pub turned_from : List ℕ → ℕ → ℕ → List ℕ
turned_from s i zero = []
turned_from s i (suc n) = turned_of (get_or s i 0) ∷ turned_from s (suc i) n
