-- `writer_file::with_frame` meets its contract. Assumes nothing.
use mathlib.Core.Path.{◌≡◌, refl}
use Prim.Native.Nat.{ℕ, zero, suc, ◌+◌, ◌<◌, ◌≤◌}
use native.Mathlib.Omega.{arith}
use Rattle.writer_fill.specs.Filling.{one_if}
use Rattle.writer_file.proofs.with_frame.Goals as goal

one : (n b : ℕ) → 0 < b → n + 1 ≡ n + one_if b
one n zero h = absurd (omega arith)
one n (suc b) h = refl

none : (n b : ℕ) → b ≤ 0 → n ≡ n + one_if b
none n zero h = omega arith
none n (suc b) h = absurd (omega arith)

pub overflow_add-result : goal.overflow_add-result
overflow_add-result c = omega (arith, c.requires)

pub returns-then-bits-gt0 : goal.returns-then-bits-gt0
returns-then-bits-gt0 c = one _ _ c.if-bits-gt0.true

pub returns-else-bits-gt0 : goal.returns-else-bits-gt0
returns-else-bits-gt0 c = none _ _ c.if-bits-gt0.false
