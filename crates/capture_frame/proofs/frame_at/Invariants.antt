use mathlib.Core.Path.{◌≡◌}
use Prim.Native.Nat.{ℕ, ◌<◌}
use lib.ListN.{length, get_or}
use Rattle.capture.specs.Frames.{captured_at, bit_of}
use Rattle.capture_frame.proofs.frame_at.Given as goal

abbrev pub invariant-loop-i : goal.invariant-loop-i
invariant-loop-i l = (length l.s ≡ 74) × ((k : ℕ) → k < l.i → get_or l.s k 0 ≡ get_or (captured_at l.octets (bit_of l.p)) k 0)
