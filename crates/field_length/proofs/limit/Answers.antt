-- `field_length::limit` meets its contract. Assumes nothing.
use mathlib.Core.Path.{◌≡◌, ap, refl}
use Prim.Native.Nat.{ℕ, ◌<◌}
use native.Mathlib.Omega.{arith}
use borrow.Author.Tests.{lt-ltb}
use Rattle.field_length.specs.FieldLength.{limit_of}
use Rattle.field_length.proofs.limit.Goals as goal

at : (k n : ℕ) → k ≡ n → limit_of k ≡ limit_of n
at k n e = ap (λ (n : ℕ). limit_of n) e

small : (n : ℕ) → n < 3 → 0 ≡ limit_of n
unfolding limit_of
small n h = rw (lt-ltb n 3 h) refl

pub returns-in-3 : goal.returns-in-3
unfolding limit_of
returns-in-3 c = at 3 c.args.n (omega arith)

pub returns-in-4 : goal.returns-in-4
unfolding limit_of
returns-in-4 c = at 4 c.args.n (omega arith)

pub returns-in-5 : goal.returns-in-5
unfolding limit_of
returns-in-5 c = at 5 c.args.n (omega arith)

pub returns-in-6 : goal.returns-in-6
unfolding limit_of
returns-in-6 c = at 6 c.args.n (omega arith)

pub returns-in-7 : goal.returns-in-7
unfolding limit_of
returns-in-7 c = at 7 c.args.n (omega arith)

pub returns-in_default : goal.returns-in_default
unfolding limit_of
returns-in_default c = small c.args.n (omega arith)
