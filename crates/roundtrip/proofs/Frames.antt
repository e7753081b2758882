-- A frame that was written, as the chain takes it: the header agrees with the image, since it says what the reading so far leaves; and its data bits
-- have the frame's steps for a reading, which the decoder answers with. Assumes nothing.
use mathlib.Core.Path.{◌≡◌, refl, sym, ap, ◌∙◌}
use mathlib.Core.Bool.{Bool, true, false, ◌||◌}
use mathlib.Core.List.{List, ◌++◌}
use Prim.Native.Nat.{ℕ, ◌-◌, ◌≤◌}
use native.Mathlib.Omega.{arith}
use lib.ListN.{length, take, replicate, length-append, length-replicate}
use lib.Seq.{take_at}
use borrow.Author.Tests.{eq-eqb, le-ltb, le-leb}
use Rattle.octets.specs.Bits.{Bit, O, bits_from}
use Rattle.octets.proofs.Fields.{bits_take}
use Rattle.octets.proofs.Packed.{length_packed}
use Rattle.register.specs.declared.Check.{Check}
use Rattle.state.specs.declared.State.{State}
use Rattle.frame.specs.Layout.{data_bits, data_front, sent_frame}
use Rattle.frame.specs.Laws.{Fits}
use Rattle.frame.proofs.RoundTrip.{data_back}
use Rattle.diagram.specs.declared.End.{End}
use Rattle.diagram.specs.declared.End.TheVariants.{At, Closed, Open}
use Rattle.diagram.specs.declared.Lengths.{Lengths}
use Rattle.diagram.specs.declared.Context.{Context}
use Rattle.diagram.specs.declared.Start.{Start}
use Rattle.diagram.specs.Diagram.{Place, counted, reading_end, ValidLengths, ValidContext}
use Rattle.diagram.specs.Decoder.{Answer, refused, read, decode}
use Rattle.diagram.specs.Demand3.{Has}
use Rattle.diagram.proofs.Demand.{answers}
use Rattle.part.specs.Call.{length_allowed, lengths_allowed}
use Rattle.chain.specs.declared.Image.{Image}
use Rattle.chain.specs.Chain.{states_agree, x_before, agrees, is_closed, frame_judged, start_of, reading_of, chained, opening, frame_columns}
use Rattle.chain.proofs.Linked.{as_agrees}
use Rattle.units.specs.Units.{bits_of_steps}
use Rattle.writer_fill.specs.Frames.{Frame}
use Rattle.writer_file.specs.File.{header_for, filled_up}
use Rattle.roundtrip.proofs.Chain.{after, Follows}
use lib.Dec.{eqb}
use Rattle.basics.proofs.Apart.{differ}
use Rattle.part.proofs.Called.{as_allowed}
use Rattle.std.specs.Prelude.{Ok}
use Rattle.refusal.specs.Reply.{valid}

-- a written data frame, in sent order
abbrev pub sent_data : Check → ℕ → Frame → List ℕ
sent_data c i f = sent_frame c (data_front (header_for i f) (filled_up (bits_of_steps f.steps)))

-- ---- numbers that fit

pub length_filled : (bs : List Bit) → length bs ≤ 512 → length (filled_up bs) ≡ 512
unfolding filled_up
length_filled bs h = length-append bs (replicate (512 - length bs) O) ∙ omega (arith, length-replicate {0} {A = Bit} (512 - length bs) O)

pub header_fits : (i : ℕ) (f : Frame) → length (bits_of_steps f.steps) ≤ 508 → ValidContext f.start.context → Fits (header_for i f)
header_fits i f n v = record {
  sequence = omega arith;
  count = omega arith;
  x = omega (arith, v.column);
  black = omega (arith, v.lengths.black_high);
  white = omega (arith, v.lengths.white_high);
}

valid_allowed : (l : Lengths) → ValidLengths l → lengths_allowed l ≡ true
unfolding lengths_allowed length_allowed
valid_allowed l v = rw (le-ltb l.black 2 v.black_low, le-leb l.black 7 v.black_high, le-ltb l.white 2 v.white_low, le-leb l.white 7 v.white_high) refl

or_true : (b : Bool) → (b || true) ≡ true
or_true true = refl
or_true false = refl

not_closed : (e : End) (s : State) → states_agree e s ≡ true → is_closed e ≡ false
not_closed (At t) s h = refl
not_closed (Closed t) s h = differ cc
not_closed Open s h = refl

-- ---- the frame

-- the image after it, and its columns
pub record FrameTaken (c : Check) (i : ℕ) (im : Image) (f : Frame) (q : Place) (cx : Context) : Type 0 where
  pub count : ℕ
  pub is : chained im (header_for i f) (sent_data c i f) ≡ Ok (record { image = after im f q cx; steps = count })
  pub lays : frame_columns im (header_for i f) (sent_data c i f) ≡ opening im.end f.start.state ++ counted f.steps

module _ (c : Check) (i : ℕ) {im : Image} {f : Frame} {q : Place} {cx : Context} (w : Follows im f q cx) where
  bits_sent : bits_from (sent_data c i f) 61 (length (bits_of_steps f.steps)) ≡ bits_of_steps f.steps
  unfolding data_bits filled_up
  bits_sent =
      let n : ℕ = length (bits_of_steps f.steps) in
      let h = w.few in
      sym (bits_take (sent_data c i f) 61 n 512 (omega arith))
      ∙ ap (take n) (data_back c (header_for i f) (filled_up (bits_of_steps f.steps)) (length_filled (bits_of_steps f.steps) (omega arith)))
      ∙ take_at (bits_of_steps f.steps) (replicate (512 - n) O) n refl

  header_agrees : agrees im (header_for i f) ≡ true
  unfolding agrees
  header_agrees =
      let l : Lengths = f.start.context.lengths in
      let a : l.black ≡ im.lengths.black = ap (λ (l : Lengths). l.black) w.lengths in
      let b : l.white ≡ im.lengths.white = ap (λ (l : Lengths). l.white) w.lengths in
      rw (w.state, eq-eqb l.black im.lengths.black a, eq-eqb l.white im.lengths.white b, eq-eqb f.start.context.x (x_before im) w.x)
      (or_true (eqb im.bits.0 0))

  frame_fine : frame_judged im (header_for i f) (sent_data c i f) ≡ valid
  unfolding sent_frame
  frame_fine =
      let n : length (sent_data c i f) ≡ 74 = length_packed 74 _ in
      let h = w.few in
      sym (as_agrees im (header_for i f) (sent_data c i f) true
      (sym (as_allowed (sent_data c i f) (length (bits_of_steps f.steps)) f.start.context.lengths true (omega arith) (valid_allowed f.start.context.lengths w.valid.lengths)))
      (not_closed im.end f.start.state w.state) header_agrees)

  -- the data part is read from where the frame starts
  start_is : start_of im (header_for i f) ≡ f.start
  start_is = ap (λ (x : ℕ). record { state = f.start.state; context = record { lengths = f.start.context.lengths; x = x } }) (sym w.x)

  -- The chain takes the frame, and lays its columns.
  pub taken_frame : FrameTaken c i im f q cx
  unfolding chained reading_of frame_columns
  taken_frame = go (decode f.start (bits_of_steps f.steps)) (ap (λ (a : Start). decode a (bits_of_steps f.steps)) start_is) (answers f.start (bits_of_steps f.steps) w.valid w.reading)
    where
      go : (a : Answer) → decode (start_of im (header_for i f)) (bits_of_steps f.steps) ≡ a → Has a (counted f.steps) (reading_end q f.steps) cx.lengths → FrameTaken c i im f q cx
      go (refused k) e x = absurd x
      go (read ss e m) y x = record {
        count = length ss;
        is = rw (frame_fine, bits_sent, y, x.0, x.1, x.2) refl;
        lays = rw (frame_fine, bits_sent, y, x.0) refl;
      }
