use mathlib.Core.Path.{◌≡◌}
use Prim.Native.Nat.{◌+◌, ◌*◌, ◌-◌, ◌≤◌, ◌<◌}
use lib.ListN.{length}
use Rattle.capture.specs.Frames.{bit_of, frames_in}
use Rattle.capture_search.specs.Search.{frames_from}
use Rattle.capture_find.proofs.count.Given as goal

abbrev pub invariant-loop-place : goal.invariant-loop-place
invariant-loop-place l = (l.from.bit < 8) × (bit_of l.from ≤ 8 * length l.octets) × (585 * l.n ≤ bit_of l.from) × (l.n + length (frames_from l.checker.setting l.octets (bit_of l.from)) ≡ length (frames_in l.checker.setting l.octets))

abbrev pub decreases-loop-place : goal.decreases-loop-place
decreases-loop-place l = 8 * length l.octets - bit_of l.from
