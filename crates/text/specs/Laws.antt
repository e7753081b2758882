-- Decimal numbers are what they look like. Proved in proofs/Digits. Assumes nothing.
use Rattle.std.specs.Prelude.{◌≡◌, ℕ}
use Rattle.text.specs.Text.{decimal, digits_value_from}

-- The digits of a number say the number.
abbrev pub DecimalValue : Type 0
DecimalValue = (n : ℕ) → digits_value_from 0 (decimal n) ≡ n
