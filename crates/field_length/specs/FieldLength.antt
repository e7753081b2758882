-- The field length rule: how long a run's next word is. It stands alone here; the deputy registrar signs any change to it. Assumes nothing.
use Rattle.std.specs.Prelude.{Bool, true, cond, ℕ, ◌+◌, ◌-◌, ◌^◌, min, ltb, eqb}
use Rattle.position.specs.Position.{last_column}
use Rattle.field_length.specs.declared.Nth.{Nth}
use Rattle.field_length.specs.declared.Nth.TheVariants.{First, Later}

-- After an all-ones word the length is one more, but at most 7.
unfoldable pub length_after_ones : ℕ → ℕ
length_after_ones n = min 7 (n + 1)

-- When a closing word is tested: it is the run's only word in this frame, or the run's last column, X behind the word, is the last one of a row pair.
abbrev pub tested : Nth → ℕ → Bool
tested First x = true
tested Later x = eqb x last_column

-- A tested word of n bits has the length fall by one when its value is below this: 2 stays; 3 falls below 4; n from 4 to 7 below 2^(n-2).
unfoldable pub limit_of : ℕ → ℕ
limit_of n = cond (ltb n 3) 0 (cond (eqb n 3) 4 (2 ^ (n - 2)))

-- After a closing word of n bits and of value v, with X behind its columns.
unfoldable pub length_after_closing : Nth → ℕ → ℕ → ℕ → ℕ
length_after_closing k n v x = cond (tested k x) (cond (ltb v (limit_of n)) (n - 1) n) n
