use mathlib.Core.Path.{◌≡◌}
use Prim.Native.Nat.{ℕ, ◌<◌}
use lib.ListN.{length, get_or}
use Rattle.register.specs.Register.{table_entry}
use Rattle.register.proofs.table.Given as goal

abbrev pub invariant-loop-i : goal.invariant-loop-i
invariant-loop-i l = (length l.entry-items ≡ 256) × ((k : ℕ) → k < l.i → get_or l.entry-items k 0 ≡ table_entry l.g k)
