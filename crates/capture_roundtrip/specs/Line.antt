-- What the line has of a page file, and a capture of it. Assumes nothing.
use Rattle.std.specs.Prelude.{◌≡◌, false, List, [], ◌∷◌, ◌++◌, ℕ, ◌+◌, ◌*◌, ◌/◌, ◌≤◌, ◌<◌, length, drop}
use Rattle.octets.specs.Bits.{Bit, bits_from, high_first}
use Rattle.register.specs.declared.Check.{Check}
use Rattle.frame.specs.Layout.{sync_number, sync}
use Rattle.records.specs.Records.{frame_at}
use Rattle.capture.specs.Frames.{frame_bits, stands}

-- Of each record the 585 bits of its frame, as they are sent; and before each frame any bits, its gap. There are no records on the line.
unfoldable pub line_of : List ℕ → List (List Bit) → List Bit
line_of file [] = []
line_of file (gap ∷ gaps) = gap ++ (bits_from (frame_at file 0) 0 frame_bits ++ line_of (drop 76 file) gaps)

-- No start in a gap matches the sync, where the frame behind the gap is read with it, which begins with the sync. (A gap without a sync is not enough:
-- a sync may begin in the gap and end in the frame.)
abbrev pub Quiet : List Bit → Type 0
Quiet gap = (i : ℕ) → i < length gap → high_first 24 (drop i (gap ++ sync)) ≡ sync_number → ⊥

pub data AllQuiet : List (List Bit) → Type 0 where
  none : AllQuiet []
  and : {gap : List Bit} {gaps : List (List Bit)} → Quiet gap → AllQuiet gaps → AllQuiet (gap ∷ gaps)

-- Octets that are a capture of a file's frames: all of them, in order, with quiet gaps before them, which may be empty, and behind them bits in which no frame stands, as where they are
-- fewer than 585.
pub record Capture (c : Check) (file s : List ℕ) (gaps : List (List Bit)) (rest : List Bit) : Type 0 where
  pub bits : bits_from s 0 (8 * length s) ≡ line_of file gaps ++ rest
  pub all_frames : 76 * length gaps + 2 ≡ length file
  pub quiet : AllQuiet gaps
  pub nothing_behind : (i : ℕ) → length (line_of file gaps) ≤ i → stands c s i ≡ false

-- the octets that so many bits stand in
abbrev pub octets_of : List Bit → ℕ
octets_of bs = (length bs + 7) / 8
