-- An image frame in the chain: what its tests come to, and what a frame that is read adds to the image. Assumes nothing.
use mathlib.Core.Bool.{Bool, true, false, cond, ◌&&◌}
use mathlib.Core.Path.{◌≡◌, refl, sym, ap, subst, ◌∙◌}
use mathlib.Core.List.{List}
use Prim.Native.Nat.{ℕ, ◌+◌, ◌*◌, ◌≤◌, min}
use native.Mathlib.Omega.{arith}
use lib.Dec.{eqb, ltb}
use lib.ListN.{length, length-map}
use lib.Seq.{length-take-le}
use borrow.Author.Tests.{eq-eqb, ne_eqb, eqb-true}
use Rattle.octets.specs.Bits.{bits_from}
use Rattle.octets.proofs.Fields.{length_bits}
use Rattle.basics.proofs.Apart.{differ}
use Rattle.refusal.specs.declared.Reason.{Reason}
use Rattle.refusal.specs.declared.Reason.TheVariants.{CountTooLarge, SizeNotAllowed, HeaderDisagrees, FrameAfterClosingWord}
use Rattle.refusal.specs.declared.Fault.{Fault}
use Rattle.refusal.specs.Fault.{fault_of, no_reading, GoesWith}
use Rattle.refusal.specs.Number.{number_of}
use Rattle.frame.specs.declared.Header.{Header}
use Rattle.diagram.specs.declared.Context.{Context}
use Rattle.diagram.specs.declared.Start.{Start}
use Rattle.diagram.specs.Diagram.{ValidLengths, ValidContext, Step, columns}
use Rattle.diagram.specs.Decoder.{Stop as Stopping, Answer, refused, read, decode}
use Rattle.diagram.proofs.Bound.{most_decoded}
use Rattle.diagram.proofs.Longest.{longest_beginning}
use Rattle.part_notes.specs.declared.StepsRead.{StepsRead}
use Rattle.part_notes.specs.Notes.{entry_of}
use Rattle.part.specs.Call.{lengths_allowed, sizes_validity}
use Rattle.part.proofs.Called.{StepsHeld, sizes_fine, laid_octets, stops_within}
use Rattle.chain.specs.declared.Image.{Image}
use Rattle.position.specs.Position.{columns_before, advanced}
use Rattle.position.proofs.Positions.{x_small, last_laid}
use Rattle.chain.specs.Chain.{open_in, states_agree, x_before, x_agrees, agrees, is_closed, sizes_of, linked, frame_judged, start_of, reading_of, image_after, chained_if, chained, Chains}
use Rattle.chain.specs.Laws.{StartX, FrameFault, no_bit, stops, FrameRefused}
use Rattle.std.specs.Prelude.{Result, Ok, Err}
use Rattle.refusal.specs.Reply.{valid}

-- ---- the header against the image

module _ (im : Image) (h : Header) where
  pub other_state : states_agree im.end h.state ≡ false → false ≡ agrees im h
  unfolding agrees
  other_state s = rw s refl

  pub other_black : states_agree im.end h.state ≡ true → (h.black ≡ im.lengths.black → ⊥) → false ≡ agrees im h
  unfolding agrees
  other_black s b = rw (s, ne_eqb h.black im.lengths.black b) refl

  pub other_white : states_agree im.end h.state ≡ true → h.black ≡ im.lengths.black → (h.white ≡ im.lengths.white → ⊥) → false ≡ agrees im h
  unfolding agrees
  other_white s b w = rw (s, eq-eqb h.black im.lengths.black b, ne_eqb h.white im.lengths.white w) refl

  module _ (s : states_agree im.end h.state ≡ true) (b : h.black ≡ im.lengths.black) (w : h.white ≡ im.lengths.white) where
    pub first_frame : im.bits.0 ≡ 0 → true ≡ agrees im h
    unfolding agrees
    first_frame z = rw (s, eq-eqb h.black im.lengths.black b, eq-eqb h.white im.lengths.white w, eq-eqb im.bits.0 0 z) refl

    pub later_frame : (im.bits.0 ≡ 0 → ⊥) → eqb h.x (x_before im) ≡ agrees im h
    unfolding agrees
    later_frame z = rw (s, eq-eqb h.black im.lengths.black b, eq-eqb h.white im.lengths.white w, ne_eqb im.bits.0 0 z) refl

-- ---- the header judged

module _ (im : Image) (h : Header) (s : List ℕ) where
  pub unfit_part : {reason : Reason} → sizes_validity s h.count (sizes_of h) ≡ Err reason → Err reason ≡ frame_judged im h s
  unfolding frame_judged
  unfit_part e = rw e refl

  pub after_closing : sizes_validity s h.count (sizes_of h) ≡ valid → is_closed im.end ≡ true → Err FrameAfterClosingWord ≡ frame_judged im h s
  unfolding frame_judged
  after_closing e c = rw (e, c) refl

  pub as_agrees : (t : Bool) → sizes_validity s h.count (sizes_of h) ≡ valid → is_closed im.end ≡ false → agrees im h ≡ t → cond t valid (Err HeaderDisagrees) ≡ frame_judged im h s
  unfolding frame_judged
  as_agrees t e c a = rw (e, c, a) refl

  -- a header that is fine has an allowed count and allowed lengths
  pub fine_header : frame_judged im h s ≡ valid → (h.count ≤ 512) × ValidLengths (sizes_of h)
  unfolding frame_judged
  fine_header e = go (sizes_validity s h.count (sizes_of h)) refl e
    where
      go : (j : Result Unit Reason) → sizes_validity s h.count (sizes_of h) ≡ j → linked j im h ≡ valid → (h.count ≤ 512) × ValidLengths (sizes_of h)
      go (Err reason) f e = differ cc
      go (Ok _) f e = sizes_fine s h.count (sizes_of h) f

  -- and its data part a valid start
  pub fine_start : frame_judged im h s ≡ valid → ValidContext (start_of im h).context
  fine_start e = record { lengths = (fine_header e).1; column = x_small (columns_before im.position + open_in im.end) }

  -- its data part lays a bounded number of columns
  pub few_read : {ss : List Step} {e : Stopping} {c : Context} → frame_judged im h s ≡ valid → reading_of im h s ≡ read ss e c → length (columns ss) ≤ 9271
  unfolding reading_of
  few_read f r = most_decoded (start_of im h) (bits_from s 61 h.count) (fine_start f) (rw (length_bits s 61 h.count) (fine_header f).0) r

  -- ---- the frame read

  pub unfit_frame : {reason : Reason} {f : Fault} (es : List ℕ) → frame_judged im h s ≡ Err reason → f ≡ fault_of reason → Chains im h s (Err f) es
  unfolding chained
  unfit_frame es e g = record { is = rw (e, g) refl; held = tt }

  pub unread_frame : {a : Start} {k : ℕ} {f : Fault} (es : List ℕ) → frame_judged im h s ≡ valid → a ≡ start_of im h → decode a (bits_from s 61 h.count) ≡ refused k → f ≡ no_reading k → Chains im h s (Err f) es
  unfolding chained reading_of
  unread_frame es e i r g = record { is = rw (e, ← i, r, g) refl; held = tt }

  module _ (f : StepsRead) (es : List ℕ) (t : StepsHeld h.count (decode (start_of im h) (bits_from s 61 h.count)) f es) where
    pub few_columns : frame_judged im h s ≡ valid → f.reading.columns.0 ≤ 9271
    unfolding reading_of
    few_columns e = rw t.reading (few_read e t.is)

    pub few_bits : f.reading.bits.0 ≡ h.count
    few_bits = rw t.reading refl

    steps_are : f.entries ≡ length t.steps
    steps_are = sym (length-take-le f.entries es t.within) ∙ ap length t.held ∙ length-map t.steps entry_of

    pub read_frame : (n : ℕ) → frame_judged im h s ≡ valid → n ≡ open_in im.end → Chains im h s (Ok (record {
      image = record { bits = record { 0 = im.bits.0 + f.reading.bits.0 }; position = advanced im.position (n + f.reading.columns.0); end = f.reading.end; lengths = f.reading.lengths };
      steps = f.entries;
    })) es
    unfolding chained reading_of
    read_frame n e o = record {
      is = rw (e, t.is, o, t.reading, steps_are) refl;
      held = (laid_octets _ _ _ _ t ∙ rw t.is refl, t.within);
    }

-- ---- what a frame is refused for

-- a header is not refused by 11
header_reason : (im : Image) (h : Header) (s : List ℕ) (reason : Reason) → frame_judged im h s ≡ Err reason → number_of reason ≡ 11 → ⊥
unfolding frame_judged sizes_validity
header_reason im h s reason e n = go (ltb (min 512 (8 * length s)) h.count) (lengths_allowed (sizes_of h)) (is_closed im.end) (agrees im h) refl refl e
  where
    not_11 : (r : Reason) → (number_of r ≡ 11 → ⊥) → ◌≡◌ {A = Result Unit Reason} (Err r) (Err reason) → ⊥
    not_11 r d e = let z : r ≡ reason = cc in d (ap number_of z ∙ n)

    go : (t u v w : Bool) → is_closed im.end ≡ v → agrees im h ≡ w → linked (cond t (Err CountTooLarge) (cond u valid (Err SizeNotAllowed))) im h ≡ Err reason → ⊥
    go true u v w x y e = not_11 CountTooLarge (λ d. omega arith) e
    go false false v w x y e = not_11 SizeNotAllowed (λ d. omega arith) e
    go false true true w x y e = not_11 FrameAfterClosingWord (λ d. omega arith) (rw x at e)
    go false true false false x y e = not_11 HeaderDisagrees (λ d. omega arith) (rw (x, y) at e)
    go false true false true x y e = let z : ◌≡◌ {A = Result Unit Reason} valid (Err reason) = rw (x, y) at e in differ cc

pub frame_refused : FrameRefused
unfolding chained reading_of
frame_refused im h s f e = go (frame_judged im h s) refl e
  where
    read_fault : (x : Answer) → ((k : ℕ) → x ≡ refused k → FrameFault im h s (no_reading k)) → image_after im h.count x ≡ Err f → FrameFault im h s f
    read_fault (refused k) b e = let z : no_reading k ≡ f = cc in subst (λ (g : Fault). FrameFault im h s g) z (b k refl)
    read_fault (read ss x c) b e = differ cc

    go : (j : Result Unit Reason) → frame_judged im h s ≡ j → chained_if j (image_after im h.count (decode (start_of im h) (bits_from s 61 h.count))) ≡ Err f → FrameFault im h s f
    go (Err reason) j e = let z : fault_of reason ≡ f = cc in subst (λ (g : Fault). FrameFault im h s g) z (no_bit reason (header_reason im h s reason j))
    go (Ok _) j e =
        let v = fine_start im h s j in
        read_fault (decode (start_of im h) (bits_from s 61 h.count))
        (λ k d. stops (longest_beginning (start_of im h) (bits_from s 61 h.count) v d)
        (stops_within (start_of im h) (bits_from s 61 h.count) k v (rw (length_bits s 61 h.count) (fine_header im h s j).0) d)) e

-- with 11 goes a bit of the data part, and with any other number 0
pub fault_bit : {im : Image} {h : Header} {s : List ℕ} {f : Fault} → FrameFault im h s f → GoesWith f.bit (number_of f.reason)
fault_bit (no_bit reason d) = (λ n. refl, omega arith)
fault_bit (stops l b) = ((λ n. absurd (n refl)), b)

-- ---- the start of a data part

-- of tests that all hold, the last one is of X
last_holds : (a b c d : Bool) → (a && (b && (c && d))) ≡ true → d ≡ true
last_holds true true true d e = e
last_holds true true false d e = differ cc
last_holds true false c d e = differ cc
last_holds false b c d e = differ cc

-- a header that is fine agrees
fine_agrees : (im : Image) (h : Header) (s : List ℕ) → frame_judged im h s ≡ valid → agrees im h ≡ true
unfolding frame_judged
fine_agrees im h s e = go (sizes_validity s h.count (sizes_of h)) (is_closed im.end) (agrees im h) refl refl e
  where
    go : (j : Result Unit Reason) (t u : Bool) → is_closed im.end ≡ t → agrees im h ≡ u → linked j im h ≡ valid → u ≡ true
    go (Err reason) t u f g e = differ cc
    go (Ok _) true u f g e = let z : ◌≡◌ {A = Result Unit Reason} (Err FrameAfterClosingWord) valid = rw f at e in differ cc
    go (Ok _) false true f g e = refl
    go (Ok _) false false f g e = let z : ◌≡◌ {A = Result Unit Reason} (Err HeaderDisagrees) valid = rw (f, g) at e in differ cc

-- and so says X, where it is compared
x_agrees_lem : (im : Image) (h : Header) → agrees im h ≡ true → (im.bits.0 ≡ 0 → ⊥) → x_before im ≡ h.x
unfolding agrees
x_agrees_lem im h e n =
    let x : x_agrees im h.x ≡ true = last_holds (states_agree im.end h.state) (eqb h.black im.lengths.black) (eqb h.white im.lengths.white) (x_agrees im h.x) e in
    let y : eqb h.x (x_before im) ≡ true = rw (ne_eqb im.bits.0 0 n) at x in
    sym (eqb-true h.x (x_before im) y)

pub start_x : StartX
start_x = record { first = λ h. last_laid.0; later = λ im h s v n. x_agrees_lem im h (fine_agrees im h s v) n }
