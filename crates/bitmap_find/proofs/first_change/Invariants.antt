use Prim.Native.Nat.{◌+◌, ◌*◌, ◌≤◌, ◌<◌}
use Rattle.bitmap_find.proofs.Firsts.{Passed}
use Rattle.bitmap_find.proofs.first_change.Given as goal

abbrev pub invariant-loop-j : goal.invariant-loop-j
invariant-loop-j l = (l.from ≤ 8 * l.j + l.x) × (l.x < 8) × Passed l.bitmap l.top l.bottom l.s l.from (8 * l.j + l.x)
