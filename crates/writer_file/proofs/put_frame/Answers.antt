-- `writer_file::put_frame` meets its contract. Assumes nothing.
use mathlib.Core.Path.{◌≡◌, refl}
use mathlib.Core.List.{List, []}
use Prim.Native.Nat.{ℕ, zero, suc, ◌<◌, ◌≤◌}
use native.Mathlib.Omega.{arith}
use Rattle.basics.proofs.Writing.{writes_none}
use Rattle.writer_fill.specs.Filling.{one_if, if_bits}
use Rattle.writer_file.proofs.put_frame.Goals as goal

some : (b : ℕ) (xs : List ℕ) → 0 < b → (one_if b ≡ 1) × (if_bits b xs ≡ xs)
some zero xs h = absurd (omega arith)
some (suc b) xs h = (refl, refl)

none : (b : ℕ) (xs : List ℕ) → b ≤ 0 → if_bits b xs ≡ []
none zero xs h = refl
none (suc b) xs h = absurd (omega arith)

pub put_data-requires : goal.put_data-requires
put_data-requires c = omega (arith, c.requires, (some _ [] c.if-h-gt0.true).0)

pub returns-then-h-gt0 : goal.returns-then-h-gt0
returns-then-h-gt0 c = rw (some _ _ c.if-h-gt0.true).1 c.put_data.ensures

pub returns-else-h-gt0 : goal.returns-else-h-gt0
returns-else-h-gt0 c = rw (none _ _ c.if-h-gt0.false) (writes_none _)
