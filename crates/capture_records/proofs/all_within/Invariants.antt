use mathlib.Core.Path.{◌≡◌}
use Prim.Native.Nat.{◌*◌}
use lib.ListN.{drop}
use Rattle.capture.specs.Extract.{all_within}
use Rattle.capture_records.proofs.all_within.Given as goal

abbrev pub invariant-loop-i : goal.invariant-loop-i
invariant-loop-i l = all_within l.octets (drop (2 * l.i) l.list) ≡ all_within l.octets l.list
