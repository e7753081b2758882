-- Every frame that is taken, and no other. Proved in proofs/Taken, proofs/Found. Assumes nothing.
use Rattle.std.specs.Prelude.{◌≡◌, true, false, List, [], ◌∷◌, ℕ, ◌+◌, ◌*◌, ◌/◌, ◌≤◌, ◌<◌, length}
use Rattle.basics.specs.Placed.{at_front}
use Rattle.register.specs.declared.Check.{Check}
use Rattle.frame.specs.Layout.{sync_agrees, check_agrees}
use Rattle.refusal.specs.Reply.{gives, refuses}
use Rattle.capture.specs.Frames.{frame_bits, captured_at, frames_in}
use Rattle.capture.specs.Find.{list_of, tells_frames, find_frames}

-- Places in order from bit i on: they ascend, and each is behind the frame before it, so that no two frames overlap.
pub data InOrder : ℕ → List ℕ → Type 0 where
  none : {i : ℕ} → InOrder i []
  next : {i p : ℕ} {ps : List ℕ} → i ≤ p → InOrder (p + frame_bits) ps → InOrder i (p ∷ ps)

pub data Among (p : ℕ) : List ℕ → Type 0 where
  first : {q : ℕ} {ps : List ℕ} → q ≡ p → Among p (q ∷ ps)
  later : {q : ℕ} {ps : List ℕ} → Among p ps → Among p (q ∷ ps)

-- bit i is one of a frame of the list, be it its first
pub record InFrame (i : ℕ) (ps : List ℕ) : Type 0 where
  pub place : ℕ
  pub listed : Among place ps
  pub from : place ≤ i
  pub before : i < place + frame_bits

-- A frame at bit i: 585 bits are left, the first 24 are the sync, and the check is right.
pub record FrameHere (c : Check) (s : List ℕ) (i : ℕ) : Type 0 where
  pub room : i + frame_bits ≤ 8 * length s
  pub sync : sync_agrees (captured_at s i) ≡ true
  pub check : check_agrees c (captured_at s i) ≡ true

-- What a list of frames must be: in order, a frame is where one is listed, and nowhere else, but inside a listed one.
pub record Complete (c : Check) (s : List ℕ) (ps : List ℕ) : Type 0 where
  pub in_order : InOrder 0 ps
  pub each_here : (p : ℕ) → Among p ps → FrameHere c s p
  pub no_other : (i : ℕ) → FrameHere c s i → InFrame i ps

-- The frames taken are so,
abbrev pub EveryFrame : Type 0
EveryFrame = (c : Check) (s : List ℕ) → Complete c s (frames_in c s)

-- and nothing else is.
abbrev pub NoOtherList : Type 0
NoOtherList = (c : Check) (s ps : List ℕ) → Complete c s ps → ps ≡ frames_in c s

-- No more frames than have room side by side,
abbrev pub FewFrames : Type 0
FewFrames = (c : Check) (s : List ℕ) → frame_bits * length (frames_in c s) ≤ 8 * length s

-- so that a list of two numbers for each of these is never refused.
abbrev pub ListSuffices : Type 0
ListSuffices = (c : Check) (s o : List ℕ) → tells_frames c ≡ true → 2 * (8 * length s / frame_bits) ≤ length o →
    find_frames c s o ≡ (gives (length (frames_in c s)), at_front (list_of (frames_in c s)) o)

-- A setting that does not compare is refused by 20: by it every sync would be a frame.
abbrev pub OnlyCompared : Type 0
OnlyCompared = (c : Check) (s o : List ℕ) → c.compare ≡ false → find_frames c s o ≡ (refuses 20 0, o)
