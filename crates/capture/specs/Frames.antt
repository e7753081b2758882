-- The frames of a raw capture: octets in sent order, with no records. Assumes nothing.
use Rattle.std.specs.Prelude.{Bool, cond, ◌&&◌, List, [], ◌∷◌, ℕ, zero, suc, ◌+◌, ◌*◌, leb, length}
use Rattle.octets.specs.Bits.{bits_from, packed}
use Rattle.register.specs.declared.Check.{Check}
use Rattle.frame.specs.Layout.{sync_agrees, check_agrees}
use Rattle.capture.specs.declared.Place.{Place}

-- a place as a bit of the capture: 8 for each octet before it
abbrev pub bit_of : Place → ℕ
bit_of p = 8 * p.octet + p.bit

-- the bits of a frame
abbrev pub frame_bits : ℕ
frame_bits = 585

-- the frame at bit i of a capture, as octets in sent order; the 7 bits of padding are 0
abbrev pub captured_at : List ℕ → ℕ → List ℕ
captured_at s i = packed 74 (bits_from s i frame_bits)

-- so many bits are left from bit i on
unfoldable pub has_room : List ℕ → ℕ → Bool
has_room s i = leb (i + frame_bits) (8 * length s)

-- Whether a frame that is taken may stand at bit i: it has room, its first 24 bits are the sync, and its check agrees.
unfoldable pub stands : Check → List ℕ → ℕ → Bool
stands c s i = has_room s i && (sync_agrees (captured_at s i) && check_agrees c (captured_at s i))

-- The places, as bits, of the frames that are taken in the next n bits from bit i on, of which the first k belong to the frame before. Where a frame stands it is taken, and
-- the search goes on behind its 585 bits; else it goes on one bit further.
unfoldable pub taken_from : Check → List ℕ → ℕ → ℕ → ℕ → List ℕ
taken_from c s i k zero = []
taken_from c s i (suc k) (suc n) = taken_from c s (suc i) k n
taken_from c s i zero (suc n) = cond (stands c s i) (i ∷ taken_from c s (suc i) 584 n) (taken_from c s (suc i) 0 n)

unfoldable pub frames_in : Check → List ℕ → List ℕ
frames_in c s = taken_from c s 0 0 (8 * length s)
