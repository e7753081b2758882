use Prim.Native.Nat.{◌*◌, ◌-◌, ◌≤◌, ◌<◌}
use lib.ListN.{length}
use Rattle.basics.proofs.Writing.{Left}
use Rattle.capture.specs.Frames.{bit_of, frames_in}
use Rattle.capture.specs.Find.{list_of}
use Rattle.capture_search.specs.Search.{frames_from}
use Rattle.capture_find.proofs.put_frames.Given as goal

abbrev pub invariant-loop-place : goal.invariant-loop-place
invariant-loop-place l = (l.from.bit < 8) × (bit_of l.from ≤ 8 * length l.octets)
    × Left (list_of (frames_in l.checker.setting l.octets)) l.initial.list (list_of (frames_from l.checker.setting l.octets (bit_of l.from))) l.list

abbrev pub decreases-loop-place : goal.decreases-loop-place
decreases-loop-place l = 8 * length l.octets - bit_of l.from
