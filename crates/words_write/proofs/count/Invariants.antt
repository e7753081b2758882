use mathlib.Core.Path.{◌≡◌}
use Prim.Native.Nat.{◌+◌, ◌*◌, ◌≤◌}
use lib.ListN.{length}
use Rattle.words_write.specs.Written.{words_from}
use Rattle.words_write.proofs.count.Given as goal

abbrev pub invariant-loop-r : goal.invariant-loop-r
invariant-loop-r l = (l.n ≤ 1727 * l.r) × (length l.scratch ≡ 1727) × (l.n + length (words_from l.bitmap l.r l.end) ≡ length (words_from l.bitmap l.from l.end))
