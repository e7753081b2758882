-- `part::allowed` meets its contract. Assumes nothing.
use mathlib.Core.Path.{◌≡◌, refl}
use mathlib.Core.Bool.{false}
use Prim.Native.Nat.{ℕ, ◌≤◌, ◌<◌}
use lib.Dec.{leb}
use native.Mathlib.Omega.{arith}
use borrow.Author.Tests.{lt-ltb, le-ltb}
use Rattle.part.specs.Call.{length_allowed}
use Rattle.part.proofs.allowed.Goals as goal

below : (n : ℕ) → n < 2 → false ≡ length_allowed n
unfolding length_allowed
below n h = rw (lt-ltb n 2 h) refl

above : (n : ℕ) → 2 ≤ n → leb n 7 ≡ length_allowed n
unfolding length_allowed
above n h = rw (le-ltb n 2 h) refl

pub returns-then-n-lt2 : goal.returns-then-n-lt2
returns-then-n-lt2 c = below _ (omega arith)

pub returns-else-n-lt2 : goal.returns-else-n-lt2
returns-else-n-lt2 c = above _ (omega arith)
