-- `bitmap_find::first` meets its contract. Assumes nothing.
use native.Mathlib.Omega.{arith}
use Prim.Native.Nat.{ℕ, ◌≤◌, ◌<◌, ◌^◌}
use lib.Count.{leading_le}
use Rattle.bitmap_find.proofs.Firsts.{first_is}
use Rattle.bitmap_find.proofs.first.Goals as goal

le-lt : {n : ℕ} → n ≤ 8 → n < 2 ^ 64
le-lt h = omega arith

pub overflow_cast-result-2 : goal.overflow_cast-result-2
overflow_cast-result-2 c = record { fits = le-lt (leading_le 8 _) }

pub returns : goal.returns
returns c = let s : _ = c.args in first_is s.a s.b s.s s.from (omega arith) (omega arith)
