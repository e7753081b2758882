-- `capture_frame::has_room` meets its contract: 585 bits from any bit of an octet stand in 74 octets, and in no fewer. Assumes nothing.
use mathlib.Core.Path.{◌≡◌, sym, ◌∙◌}
use mathlib.Core.Bool.{false}
use mathlib.Core.List.{List}
use Prim.Native.Nat.{ℕ, ◌+◌, ◌*◌, ◌-◌, ◌<◌, ◌≤◌}
use native.Mathlib.Omega.{arith}
use native.Mathlib.Decide.{dec_le}
use lib.Dec.{leb}
use lib.ListN.{length}
use borrow.Author.Tests.{le-leb, lt-leb}
use Rattle.capture.specs.Frames.{has_room}
use Rattle.capture_frame.proofs.has_room.Goals as goal

-- a frame has room where 74 octets are left
room : (s : List ℕ) (o b : ℕ) → b < 8 → 74 ≤ length s → leb o (length s - 74) ≡ has_room s (8 * o + b)
unfolding has_room
room s o b h l = go (dec_le o (length s - 74))
  where
    go : Dec (o ≤ length s - 74) → leb o (length s - 74) ≡ leb (8 * o + b + 585) (8 * length s)
    go (yes le) = le-leb _ _ le ∙ sym (le-leb (8 * o + b + 585) (8 * length s) (omega arith))
    go (no nle) = lt-leb o (length s - 74) (omega arith) ∙ sym (lt-leb (8 * o + b + 585) (8 * length s) (omega arith))

no_room : (s : List ℕ) (i : ℕ) → length s < 74 → false ≡ has_room s i
unfolding has_room
no_room s i h = sym (lt-leb (i + 585) (8 * length s) (omega arith))

pub returns-then-octets-lt-FRAME_OCTETS : goal.returns-then-octets-lt-FRAME_OCTETS
returns-then-octets-lt-FRAME_OCTETS c = no_room _ _ (omega (arith, c.if-octets-lt-FRAME_OCTETS.true))

pub returns : goal.returns
returns c = room _ _ _ (omega arith) (omega arith)
