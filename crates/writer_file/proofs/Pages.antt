-- A page frame by frame, counted and written: the frames from a head on are the one that is filled there and those from the next head on.
-- Assumes nothing.
use mathlib.Core.Path.{◌≡◌, refl, sym, ap, ◌∙◌}
use mathlib.Core.List.{List, [], ◌∷◌, ◌++◌, append_assoc}
use Prim.Native.Nat.{ℕ, zero, suc, ◌+◌, ◌-◌, ◌*◌, ◌<◌, ◌≤◌}
use native.Mathlib.Numerals.{add-one}
use native.Mathlib.Omega.{arith}
use lib.ListN.{length, drop, length-append}
use Rattle.octets.specs.Bits.{bits_from, packed}
use Rattle.basics.specs.Cursor.{HasRoom, Writes}
use Rattle.basics.specs.declared.Cursor.{Cursor}
use Rattle.basics.proofs.Writing.{Left as ToWrite, left_all, left_rest, left_on, left_end}
use Rattle.basics.proofs.Apart.{differ}
use Rattle.octets.proofs.Packed.{all_packed}
use Rattle.register.specs.declared.Check.{Check}
use Rattle.state.specs.declared.State.{State}
use Rattle.settings.specs.declared.Settings.{Settings}
use Rattle.frame.specs.Layout.{data_front, stored_frame, end_record}
use Rattle.position.proofs.Positions.{last_laid}
use Rattle.diagram.specs.declared.Lengths.{Lengths}
use Rattle.diagram.specs.declared.Start.{Start}
use Rattle.diagram.specs.Diagram.{ValidLengths, Step}
use Rattle.units.specs.declared.StepDue.{StepDue}
use Rattle.units.specs.Units.{bits_of_steps}
use Rattle.writer_fill.specs.declared.FrameStart.{FrameStart}
use Rattle.writer_fill.specs.declared.FrameProgress.{FrameProgress}
use Rattle.writer_fill.specs.declared.FilledFrame.TheVariants.{Full, Finished}
use Rattle.writer_fill.specs.Frames.{Filled, finished, Frame, frame_of, framed, frames_from, sevens, page_start, frames_of}
use Rattle.writer_file.specs.File.{header_with, filled_up, set_up_record, data_record, data_records, no_frame, file_of}
use Rattle.writer_fill.specs.Filling.{start_of, first_start, start_after, fill_from, Fills, one_if, if_bits}
use Rattle.writer_file.proofs.Sizes.{length_records, length_file}

-- ---- the frames from a head on

pub record Left (most : ℕ) (cs : List State) (h : FrameStart) (fs : List Frame) : Type 0 where
  pub left : ℕ
  pub is : fs ≡ frames_from (suc left) most (start_of h) (drop h.before cs)
  pub enough : length cs ≤ h.before + left
  pub within : h.before ≤ length cs
  pub valid : ValidLengths h.lengths

-- a page starts behind a column 1725 that is not on it
pub first_is : start_of first_start ≡ page_start
first_is = ap (λ (x : ℕ). record { state = first_start.state; context = record { lengths = sevens; x = x } }) last_laid.0

-- the frames of a page, from the first head on
pub left_first : (most : ℕ) (cs : List State) → Left most cs first_start (frames_of most cs)
unfolding frames_of
left_first most cs = record {
  left = length cs;
  is = ap (λ (a : Start). frames_from (suc (length cs)) most a cs) (sym first_is);
  enough = omega arith;
  within = omega arith;
  valid = record { black_low = omega arith; black_high = omega arith; white_low = omega arith; white_high = omega arith };
}

-- the full frame at a head, and the frames after it
pub record Next (most : ℕ) (cs : List State) (h : FrameStart) (fs : List Frame) (p : FrameProgress) (ss : List Step) : Type 0 where
  pub rest : List Frame
  pub is : fs ≡ frame_of (start_of h) ss ∷ rest
  pub left : Left most cs (start_after h p) rest

-- a frame that tells the page is written if it has bits
framed_last : (b : ℕ) (a : Start) (ss : List Step) (d : StepDue) (l : Lengths) (go : Start → List State → List Frame) → length (bits_of_steps ss) ≡ b → (b ≡ 0 → ss ≡ []) →
    framed a (finished ss d l) go ≡ if_bits b (frame_of a ss ∷ [])
unfolding bits_of_steps
framed_last zero a [] d l go e f = refl
framed_last (suc b) a [] d l go e f = absurd (omega arith)
framed_last zero a (s ∷ ss) d l go e f = differ (let z : _ = f refl in cc)
framed_last (suc b) a (s ∷ ss) d l go e f = refl

module _ {most : ℕ} {cs : List State} {h : FrameStart} {fs : List Frame} (l : Left most cs h fs) where
  filled : {x : Filled} → fill_from most h cs ≡ x → fs ≡ framed (start_of h) x (λ b ds. frames_from l.left most b ds)
  filled i = l.is ∙ (unfold frames_from in ap (λ (y : Filled). framed (start_of h) y (λ b ds. frames_from l.left most b ds)) i)

  pub left_next : {p : FrameProgress} {os : List ℕ} (f : Fills most h cs (Full p) os) → Next most cs h fs p f.steps
  left_next {p} f = record {
    rest = frames_from (suc (l.left - 1)) most (start_of (start_after h p)) (drop (h.before + p.columns.0) cs);
    is =
        let z : l.left ≡ suc (l.left - 1) = omega (arith, l.enough, f.some.1, f.within) in
        filled f.is ∙ ap (λ (k : ℕ). frame_of (start_of h) f.steps ∷ frames_from k most (start_of (start_after h p)) (drop (h.before + p.columns.0) cs)) z;
    left = record {
      left = l.left - 1;
      is = refl;
      enough = omega (arith, l.enough, f.some.1);
      within = f.within;
      valid = f.valid;
    };
  }

  pub left_last : {p : FrameProgress} {os : List ℕ} (f : Fills most h cs (Finished p) os) → fs ≡ if_bits p.bits.0 (frame_of (start_of h) f.steps ∷ [])
  left_last {p} f = filled f.is ∙ framed_last p.bits.0 (start_of h) f.steps p.due p.lengths _ f.bits f.none

-- ---- counted

pub record Counting (most : ℕ) (cs : List State) (n : ℕ) (h : FrameStart) : Type 0 where
  pub frames : List Frame
  pub left : Left most cs h frames
  pub same : n + length frames ≡ length (frames_of most cs)
  pub few : n ≤ h.before

pub counting_first : (most : ℕ) (cs : List State) → Counting most cs 0 first_start
counting_first most cs = record { frames = frames_of most cs; left = left_first most cs; same = omega arith; few = omega arith }

length_if : (b : ℕ) (f : Frame) → length (if_bits b (f ∷ [])) ≡ one_if b
length_if zero f = omega arith
length_if (suc b) f = omega arith

one_most : (b : ℕ) → one_if b ≤ 1
one_most zero = omega arith
one_most (suc b) = omega arith

-- the columns that are left
abbrev pub columns_left : ℕ → FrameStart → ℕ
columns_left n h = n - h.before

pub starts_less : {most : ℕ} {cs : List State} {h : FrameStart} {p : FrameProgress} {os : List ℕ} (n : ℕ) → length cs ≡ n → Fills most h cs (Full p) os → columns_left n (start_after h p) < columns_left n h
starts_less n e f = omega (arith, f.some.1, f.within)

module _ {most : ℕ} {cs : List State} {n : ℕ} {h : FrameStart} (k : Counting most cs n h) where
  pub counted_few : n ≤ length cs
  counted_few = omega (arith, k.few, k.left.within)

  pub counting_next : {p : FrameProgress} {os : List ℕ} → Fills most h cs (Full p) os → Counting most cs (n + 1) (start_after h p)
  counting_next {p} f =
      let x : _ = left_next k.left f in
      record {
        frames = x.rest;
        left = x.left;
        same = omega (arith, k.same, ap length x.is);
        few = omega (arith, k.few, f.some.1);
      }

  pub counting_last : {p : FrameProgress} {os : List ℕ} → Fills most h cs (Finished p) os → (n + one_if p.bits.0 ≡ length (frames_of most cs)) × (n + one_if p.bits.0 ≤ suc (length cs))
  counting_last {p} f = (omega (arith, k.same, ap length (left_last k.left f) ∙ length_if p.bits.0 _), omega (arith, counted_few, one_most p.bits.0))

-- ---- written

-- the record of a frame, from the octets that hold its bits
pub frame_record : (c : Check) (i b : ℕ) (f : Frame) (os : List ℕ) → length (bits_of_steps f.steps) ≡ b → b ≤ 508 → os ≡ packed 64 (bits_of_steps f.steps) →
    76 ∷ 57 ∷ stored_frame c (data_front (header_with i b f.start) (bits_from os 0 512)) ≡ data_record c i f
unfolding filled_up
frame_record c i b f os e h q = rw (q, ← e, all_packed 64 (bits_of_steps f.steps) (omega arith)) refl

records_one : (c : Check) (i : ℕ) (f : Frame) (fs : List Frame) → data_records c i (f ∷ fs) ++ end_record ≡ data_record c i f ++ (data_records c (suc i) fs ++ end_record)
unfolding data_records
records_one c i f fs = append_assoc (data_record c i f) (data_records c (suc i) fs) end_record

-- before data record i: these frames are still to be written, and the end record, of what was to be written behind the frame of count 0
abbrev pub Due : Check → ℕ → List State → Cursor ℕ → ℕ → List Frame → Cursor ℕ → Type 0
Due c most cs o i frames p = ToWrite (data_records c 1 (frames_of most cs) ++ end_record) o (data_records c i frames ++ end_record) p

length_due : (c : Check) (i : ℕ) (fs : List Frame) → length (data_records c i fs ++ end_record) ≡ 76 * length fs + 2
length_due c i fs = length-append (data_records c i fs) end_record ∙ omega (arith, length_records c i fs)

due_next : (c : Check) (i : ℕ) (f : Frame) (fs : List Frame) {all : List ℕ} {o p q : Cursor ℕ} → ToWrite all o (data_records c i (f ∷ fs) ++ end_record) p → Writes (data_record c i f) p q →
    ToWrite all o (data_records c (i + 1) fs ++ end_record) q
due_next c i f fs w e = rw (add-one i) (left_on w _ (records_one c i f fs) e)

pub record Writing (c : Check) (most : ℕ) (cs : List State) (o : Cursor ℕ) (i : ℕ) (h : FrameStart) (p : Cursor ℕ) : Type 0 where
  pub frames : List Frame
  pub left : Left most cs h frames
  pub few : i ≤ suc h.before
  pub due : Due c most cs o i frames p

pub writing_first : (c : Check) (most : ℕ) (cs : List State) (o : Cursor ℕ) → HasRoom (76 * length (frames_of most cs) + 2) o → Writing c most cs o 1 first_start o
writing_first c most cs o e = record { frames = frames_of most cs; left = left_first most cs; few = omega arith; due = left_all o (omega (arith, length_due c 1 (frames_of most cs))) refl }

module _ {c : Check} {most : ℕ} {cs : List State} {o : Cursor ℕ} {i : ℕ} {h : FrameStart} {q : Cursor ℕ} (w : Writing c most cs o i h q) where
  pub writing_few : i ≤ suc (length cs)
  writing_few = omega (arith, w.few, w.left.within)

  -- there is room for all frames that are left
  room_all : HasRoom (76 * length w.frames + 2) q
  room_all = omega (arith, left_rest w.due, length_due c i w.frames)

  module _ {p : FrameProgress} {os : List ℕ} where
    -- there is room for a full frame, and for the last one
    pub room_full : Fills most h cs (Full p) os → HasRoom 76 q
    room_full f = let n : _ = left_next w.left f in omega (arith, room_all, ap length n.is)

    pub room_last : Fills most h cs (Finished p) os → HasRoom (76 * one_if p.bits.0) q
    room_last f = omega (arith, room_all, ap length (left_last w.left f) ∙ length_if p.bits.0 _)

    pub writing_next : {r : Cursor ℕ} → Fills most h cs (Full p) os → Writes (76 ∷ 57 ∷ stored_frame c (data_front (header_with i p.bits.0 (start_of h)) (bits_from os 0 512))) q r →
        Writing c most cs o (i + 1) (start_after h p) r
    writing_next f e =
        let n : _ = left_next w.left f in
        record {
          frames = n.rest;
          left = n.left;
          few = omega (arith, w.few, f.some.1);
          due = due_next c i _ n.rest (rw n.is at w.due) (rw (frame_record c i p.bits.0 (frame_of (start_of h) f.steps) os f.bits f.few f.held) at e);
        }

    -- behind the last frame the end record is left
    pub writing_last : {r : Cursor ℕ} → Fills most h cs (Finished p) os → Writes (if_bits p.bits.0 (76 ∷ 57 ∷ stored_frame c (data_front (header_with i p.bits.0 (start_of h)) (bits_from os 0 512)))) q r →
        ToWrite (data_records c 1 (frames_of most cs) ++ end_record) o end_record r
    unfolding data_records
    writing_last {r} f e = go p.bits.0 (left_last w.left f) (rw (frame_record c i p.bits.0 fr os f.bits f.few f.held) at e)
      where
        fr : Frame
        fr = frame_of (start_of h) f.steps

        go : (b : ℕ) → w.frames ≡ if_bits b (fr ∷ []) → Writes (if_bits b (data_record c i fr)) q r → ToWrite (data_records c 1 (frames_of most cs) ++ end_record) o end_record r
        go zero q e = left_on (rw q at w.due) end_record refl e
        go (suc b) q e = due_next c i fr [] (rw q at w.due) e

-- the whole file
pub file_written : (c : Check) (g : Settings) (most : ℕ) (cs : List State) {o p q r : Cursor ℕ} → HasRoom (76 * (2 + length (frames_of most cs)) + 2) o →
    Writes (set_up_record c g) o p → Writes (data_record c 0 no_frame) p q → Writes (data_records c 1 (frames_of most cs) ++ end_record) q r → Writes (file_of c g most cs) o r
unfolding file_of
file_written c g most cs {o} h a b d =
    let parts : _ = ap (λ (x : List ℕ). set_up_record c g ++ x) (records_one c 0 no_frame (frames_of most cs)) in
    left_end (left_on (left_on (left_all o (omega (arith, h, length_file c g most cs)) parts) (data_record c 0 no_frame ++ (data_records c 1 (frames_of most cs) ++ end_record)) refl a) (data_records c 1 (frames_of most cs) ++ end_record) refl b) d
