-- The rule keeps a length from 2 to 7. Proved in proofs/Rule. Assumes nothing.
use Rattle.std.specs.Prelude.{ℕ, ◌≤◌}
use Rattle.field_length.specs.declared.Nth.{Nth}
use Rattle.field_length.specs.FieldLength.{length_after_ones, length_after_closing}

-- After an all-ones word, whatever length of at least 2 it had.
abbrev pub AfterOnesWithin : Type 0
AfterOnesWithin = (n : ℕ) → 2 ≤ n → (2 ≤ length_after_ones n) × (length_after_ones n ≤ 7)

-- After a closing word of any value, wherever its run ends.
abbrev pub AfterClosingWithin : Type 0
AfterClosingWithin = (k : Nth) (n v x : ℕ) → 2 ≤ n → n ≤ 7 → (2 ≤ length_after_closing k n v x) × (length_after_closing k n v x ≤ 7)
