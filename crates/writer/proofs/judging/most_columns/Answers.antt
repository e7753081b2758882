-- `writer::judging::most_columns` meets its contract. Assumes nothing.
use mathlib.Core.Path.{◌≡◌, refl, ap}
use Prim.Native.Nat.{ℕ}
use native.Mathlib.Omega.{arith}
use borrow.Author.Tests.{ne_eqb}
use Rattle.writer.specs.Call.{most_columns, columns_at}
use Rattle.writer.proofs.judging.most_columns.Goals as goal
use Rattle.std.specs.Prelude.{None}

at : (k rate : ℕ) → k ≡ rate → columns_at k ≡ columns_at rate
at k rate e = ap (λ (n : ℕ). columns_at n) e

other : (rate : ℕ) → (rate ≡ 2400 → ⊥) → (rate ≡ 4800 → ⊥) → (rate ≡ 9600 → ⊥) → None ≡ columns_at rate
unfolding columns_at most_columns
other rate a b c = rw (ne_eqb rate 2400 a, ne_eqb rate 4800 b, ne_eqb rate 9600 c) refl

pub returns-in-2400 : goal.returns-in-2400
unfolding columns_at most_columns
returns-in-2400 c = (at 2400 c.args.rate (omega arith), omega arith)

pub returns-in-4800 : goal.returns-in-4800
unfolding columns_at most_columns
returns-in-4800 c = (at 4800 c.args.rate (omega arith), omega arith)

pub returns-in-9600 : goal.returns-in-9600
unfolding columns_at most_columns
returns-in-9600 c = (at 9600 c.args.rate (omega arith), omega arith)

pub returns-in_default : goal.returns-in_default
returns-in_default c = (other c.args.rate (omega arith) (omega arith) (omega arith), tt)
