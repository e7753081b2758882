use Prim.Native.Nat.{◌-◌, ◌≤◌}
use Rattle.units.proofs.Ahead.{Passed}
use Rattle.units.proofs.find.run_ahead.Given as goal

abbrev pub invariant-loop-i : goal.invariant-loop-i
invariant-loop-i l = (l.at ≤ l.i) × (l.i ≤ l.end) × Passed l.bitmap l.state l.at l.i

abbrev pub decreases-loop-i : goal.decreases-loop-i
decreases-loop-i l = l.end - l.i
