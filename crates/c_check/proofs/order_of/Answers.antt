-- `c_check::order_of` meets its contract. Assumes nothing.
use mathlib.Core.Path.{◌≡◌, refl}
use Prim.Native.Nat.{ℕ}
use borrow.Author.Tests.{eq-eqb, ne_eqb}
use Rattle.register.specs.declared.BitOrder.TheVariants.{LowFirst, HighFirst}
use Rattle.c_check.specs.Setting.{order_of}
use Rattle.c_check.proofs.order_of.Goals as goal

low : (n : ℕ) → n ≡ 0 → LowFirst ≡ order_of n
unfolding order_of
low n e = rw (eq-eqb n 0 e) refl

high : (n : ℕ) → (n ≡ 0 → ⊥) → HighFirst ≡ order_of n
unfolding order_of
high n e = rw (ne_eqb n 0 e) refl

pub returns-then-n-eq0 : goal.returns-then-n-eq0
returns-then-n-eq0 c = low _ c.if-n-eq0.true

pub returns-else-n-eq0 : goal.returns-else-n-eq0
returns-else-n-eq0 c = high _ c.if-n-eq0.false
