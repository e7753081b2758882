use Rattle.std.proofs.Common.{◌≡◌}
use Rattle.bitmap.specs.Validity.{trailing0}
use Rattle.bitmap.proofs.trailing_0.Given as goal

abbrev pub invariant-loop-n : goal.invariant-loop-n
invariant-loop-n l = trailing0 l.bitmap l.n ≡ trailing0 l.bitmap l.lines
