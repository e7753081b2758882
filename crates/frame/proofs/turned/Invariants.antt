use mathlib.Core.Path.{◌≡◌}
use Prim.Native.Nat.{ℕ, ◌<◌}
use lib.ListN.{length, get_or}
use Rattle.turning.specs.Turned.{turned_of}
use Rattle.frame.proofs.turned.Given as goal

abbrev pub invariant-loop-i : goal.invariant-loop-i
invariant-loop-i l = (length l.x-items ≡ 74) × ((k : ℕ) → k < l.i → get_or l.x-items k 0 ≡ turned_of (get_or l.frame k 0))
