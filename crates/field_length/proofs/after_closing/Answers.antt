-- `field_length::after_closing` meets its contract. Assumes nothing.
use borrow.Author.Tests.{lt-ltb, le-ltb}
use mathlib.Core.Path.{◌≡◌, refl, sym, ◌∙◌}
use mathlib.Core.Bool.{true, false}
use Prim.Native.Nat.{ℕ, zero, suc, ◌-◌, ◌≤◌, ◌<◌}
use native.Mathlib.Omega.{arith}
use Rattle.field_length.specs.declared.Nth.{Nth}
use Rattle.field_length.specs.FieldLength.{tested, limit_of, length_after_closing}
use Rattle.field_length.proofs.after_closing.Goals as goal

-- a length below whose limit a value is is not 0
positive : (n v : ℕ) → v < limit_of n → 1 ≤ n
unfolding limit_of
positive zero v h = absurd (omega arith)
positive (suc n) v h = omega arith

module _ (k : Nth) (n v x : ℕ) where
  not_tested : tested k x ≡ false → n ≡ length_after_closing k n v x
  unfolding length_after_closing
  not_tested e = rw e refl

  falls : tested k x ≡ true → v < limit_of n → n - 1 ≡ length_after_closing k n v x
  unfolding length_after_closing
  falls e h = rw (e, lt-ltb v (limit_of n) h) refl

  stays : tested k x ≡ true → limit_of n ≤ v → n ≡ length_after_closing k n v x
  unfolding length_after_closing
  stays e h = rw (e, le-ltb v (limit_of n) h) refl

pub returns-then-not-is_tested : goal.returns-then-not-is_tested
returns-then-not-is_tested c = not_tested _ _ _ _ (sym c.is_tested.ensures ∙ c.if-not-is_tested.true)

pub overflow_sub-result : goal.overflow_sub-result
overflow_sub-result c = positive _ c.args.v (omega arith)

pub returns-then-v-limit : goal.returns-then-v-limit
returns-then-v-limit c = falls _ _ _ _ (sym c.is_tested.ensures ∙ c.if-not-is_tested.false) (omega arith)

pub returns-else-v-limit : goal.returns-else-v-limit
returns-else-v-limit c = stays _ _ _ _ (sym c.is_tested.ensures ∙ c.if-not-is_tested.false) (omega arith)
