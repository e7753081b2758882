use mathlib.Core.Path.{◌≡◌}
use Prim.Native.Nat.{◌*◌, ◌-◌, ◌/◌, ◌^◌, ◌<◌}
use lib.ListN.{length}
use Rattle.frame.specs.Layout.{sync_number}
use Rattle.capture.specs.Frames.{bit_of}
use Rattle.capture_search.specs.Search.{frames_from}
use Rattle.capture_search.proofs.next_frame.Given as goal

abbrev pub invariant-loop-k : goal.invariant-loop-k
invariant-loop-k l = l.bits / 2 ^ (24 - l.k) ≡ sync_number / 2 ^ (24 - l.k)

abbrev pub invariant-start : goal.invariant-start
invariant-start l = (frames_from l.checker.setting l.octets (bit_of l.initial.place) ≡ frames_from l.checker.setting l.octets (bit_of l.place)) × (l.place.bit < 8)

abbrev pub decreases-start : goal.decreases-start
decreases-start l = 8 * length l.octets - bit_of l.place
