-- From which X an image frame's data part is read, and what it is refused for. Proved in proofs/Linked. Assumes nothing.
use Rattle.std.specs.Prelude.{◌≡◌, List, ℕ, ◌<◌, Err}
use Rattle.octets.specs.Bits.{bits_from}
use Rattle.refusal.specs.declared.Reason.{Reason}
use Rattle.refusal.specs.declared.Fault.{Fault}
use Rattle.refusal.specs.Number.{number_of}
use Rattle.refusal.specs.Fault.{fault_of, no_reading}
use Rattle.frame.specs.declared.Header.{Header}
use Rattle.diagram.specs.Diagram.{LongestBeginning}
use Rattle.chain.specs.declared.Image.{Image}
use Rattle.chain.specs.Chain.{blank, frame_judged, start_of, chained}
use Rattle.refusal.specs.Reply.{valid}

-- The first image frame's from 1725, whatever its header says, and every later one's that is not refused before 11 from its header's X.
pub record StartX : Type 0 where
  pub first : (h : Header) → (start_of blank h).context.x ≡ 1725
  pub later : (im : Image) (h : Header) (s : List ℕ) → frame_judged im h s ≡ valid → (im.bits.0 ≡ 0 → ⊥) → (start_of im h).context.x ≡ h.x

-- a fault of an image frame, or of a record that is none: any number but 11, with no bit; or 11, with the length of the longest beginning of its data part
-- that has a reading
pub data FrameFault (im : Image) (h : Header) (s : List ℕ) : Fault → Type 0 where
  no_bit : (reason : Reason) → (number_of reason ≡ 11 → ⊥) → FrameFault im h s (fault_of reason)
  stops : {k : ℕ} → LongestBeginning (start_of im h) (bits_from s 61 h.count) k → k < 512 → FrameFault im h s (no_reading k)

-- Each image frame that is refused is refused for such a fault.
abbrev pub FrameRefused : Type 0
FrameRefused = (im : Image) (h : Header) (s : List ℕ) (f : Fault) → chained im h s ≡ Err f → FrameFault im h s f
