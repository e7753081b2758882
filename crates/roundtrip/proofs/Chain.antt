-- The frames of a page as the strict reader chains them. Each header says what the reading so far leaves, and each data part has a reading that
-- lays the frame's columns; a frame that ends on a single 1 out of a solid state leaves a column open, and the next header says it. Assumes nothing.
use mathlib.Core.Path.{◌≡◌, refl, sym, ap, subst, ◌∙◌}
use mathlib.Core.Bool.{Bool, true, false}
use mathlib.Core.List.{List, [], ◌∷◌, ◌++◌, append_assoc, append-nil}
use Prim.Native.Nat.{ℕ, zero, suc, ◌+◌, ◌≤◌, ◌<◌}
use native.Mathlib.Omega.{arith}
use lib.ListN.{length, length-append}
use borrow.Author.Tests.{eq-eqb}
use Rattle.basics.proofs.Apart.{differ}
use Rattle.state.specs.declared.Mixed.{Mixed}
use Rattle.state.specs.declared.Solid.TheVariants.{WW}
use Rattle.state.specs.declared.State.{State}
use Rattle.state.specs.declared.State.TheVariants.{Solid as solid, Mixed as mixed}
use Rattle.state.specs.Pels.{pels_of}
use Rattle.diagram.specs.declared.End.{End}
use Rattle.diagram.specs.declared.End.TheVariants.{At, Closed, Open}
use Rattle.diagram.specs.declared.Lengths.{Lengths}
use Rattle.diagram.specs.declared.Context.{Context}
use Rattle.diagram.specs.declared.Start.{Start}
use Rattle.diagram.specs.Diagram.{Place, at, run, out, Step, columns, last_enters_mixed, counted, end_at, reading_end, Reading, ReadingFrom, ValidLengths, ValidContext}
use Rattle.diagram.proofs.Demand.{counted_all, counts}
use Rattle.position.specs.Position.{pels_per_line, columns_before, advanced, last_x, x_after}
use Rattle.position.proofs.Positions.{count_after, column_small, last_laid, x_moves_on, advanced_more}
use Rattle.chain.specs.declared.Image.{Image}
use Rattle.chain.specs.Chain.{blank, open_in, states_agree, x_before, opening}
use Rattle.chain.proofs.Columns.{length_opening}
use Rattle.units.specs.declared.StepDue.{StepDue}
use Rattle.units.specs.declared.StepDue.TheVariants.{Move, Word}
use Rattle.units.specs.Units.{bits_of_steps, stands, entered}
use Rattle.writer_fill.specs.Frames.{Filled, full, finished, is_full, fill, Frame, frame_of, framed, frames_from, sevens, page_start, frames_of}
use Rattle.roundtrip.specs.Sizes.{bits_in}
use Rattle.roundtrip.proofs.LastColumn.{not_encodable_after}
use Rattle.roundtrip.proofs.Steps.{turned, turned_last, opens_last, steps_bits}
use Rattle.roundtrip.proofs.Readings.{place}
use Rattle.roundtrip.proofs.Filling.{Filling, Final, Fills, full_columns, filled}

-- ---- the chain

-- the image after a frame whose reading ends at a place, in this context
abbrev pub after : Image → Frame → Place → Context → Image
after im f q cx = record {
  bits = record { 0 = im.bits.0 + length (bits_of_steps f.steps) };
  position = advanced im.position (open_in im.end + length (counted f.steps));
  end = reading_end q f.steps;
  lengths = cx.lengths;
}

-- a frame that follows an image
pub record Follows (im : Image) (f : Frame) (q : Place) (cx : Context) : Type 0 where
  pub state : states_agree im.end f.start.state ≡ true
  pub lengths : f.start.context.lengths ≡ im.lengths
  pub x : f.start.context.x ≡ x_before im
  pub valid : ValidContext f.start.context
  pub some : 1 ≤ length (bits_of_steps f.steps)
  pub few : length (bits_of_steps f.steps) ≤ 508
  pub reading : ReadingFrom f.start f.steps (bits_of_steps f.steps) q cx

-- from an image these frames lay these columns, and lead to an image
pub data Chain : Image → List Frame → List State → Image → Type 0 where
  no_frames : {im : Image} → Chain im [] [] im
  and_frame : {im jm : Image} {f : Frame} {q : Place} {cx : Context} {fs : List Frame} {cs : List State} →
      Follows im f q cx → Chain (after im f q cx) fs cs jm → Chain im (f ∷ fs) ((opening im.end f.start.state ++ counted f.steps) ++ cs) jm

-- and at the end no column is open
pub record Chains (im : Image) (fs : List Frame) (cs : List State) : Type 0 where
  pub image : Image
  pub chain : Chain im fs cs image
  pub shut : open_in image.end ≡ 0

-- ---- what is open

abbrev pub is_open : End → Bool
is_open (At s) = false
is_open (Closed s) = false
is_open Open = true

not_open : (e : End) (s : State) → is_open e ≡ false → (opening e s ≡ []) × (open_in e ≡ 0)
not_open (At t) s h = (refl, refl)
not_open (Closed t) s h = (refl, refl)
not_open Open s h = differ cc

shut_at : (q : Place) → open_in (end_at q) ≡ 0
shut_at (at m) = refl
shut_at (run k s) = refl
shut_at (out s) = refl

same_pels : (s : State) → states_agree (At s) s ≡ true
same_pels s = eq-eqb (pels_of s) (pels_of s) refl

-- where a frame is left, and what the next header says
record Leaves (d : StepDue) (ss : List Step) : Type 0 where
  state : states_agree (reading_end (place d) ss) (stands d) ≡ true
  open_if : is_open (reading_end (place d) ss) ≡ last_enters_mixed ss
  lays : counted ss ++ opening (reading_end (place d) ss) (stands d) ≡ columns ss

left : {p : Place} {kx cx : Context} {ss : List Step} (d : StepDue) → Reading p kx ss (bits_of_steps ss) (place d) cx → Leaves d ss
unfolding reading_end
left {ss} d r = go d (last_enters_mixed ss) refl (opens_last r)
  where
    go : (d : StepDue) (t : Bool) → last_enters_mixed ss ≡ t → (last_enters_mixed ss ≡ true → (k : Mixed) × (place d ≡ at k) × (columns ss ≡ counted ss ++ mixed k ∷ [])) → Leaves d ss
    go (Move m) false e o = record { state = rw e (same_pels (mixed m)); open_if = rw e refl; lays = rw e (append-nil (counted ss) ∙ counted_all ss e) }
    go (Word k s) false e o = record { state = rw e (same_pels (solid s)); open_if = rw e refl; lays = rw e (append-nil (counted ss) ∙ counted_all ss e) }
    go (Move m) true e o =
        let x = o e in let z : m ≡ x.0 = cc in
        record { state = rw e refl; open_if = rw e refl; lays = rw (e, z) (sym x.2) }
    go (Word k s) true e o = let x = o e in differ cc

-- ---- the frames of a page

-- steps that are there
pub data Some : List Step → Type 0 where
  some : {s : Step} {ss : List Step} → Some (s ∷ ss)

pub some_steps : (ss : List Step) → 1 ≤ length (columns ss) → Some ss
unfolding columns
some_steps [] h = absurd (omega arith)
some_steps (s ∷ ss) h = some

turned_some : {ss : List Step} (b : Bool) → Some ss → turned b ss ≡ last_enters_mixed ss
turned_some b (some {s = s} {ss = ss}) = turned_last b s ss

pub some_length : {ss : List Step} → Some ss → 1 ≤ length ss
some_length some = omega arith

-- where an image stands before a frame that starts here
record Stands (im : Image) (a : Start) : Type 0 where
  state : states_agree im.end a.state ≡ true
  lengths : a.context.lengths ≡ im.lengths
  x : a.context.x ≡ x_before im
  valid : ValidContext a.context

-- X behind a frame: its columns, one that is left open among them, are counted on from X before it
x_after_frame : (im : Image) (f : Frame) (q : Place) (cx : Context) → cx.x ≡ x_after (x_before im) (length (columns f.steps)) →
    length (columns f.steps) ≡ length (counted f.steps) + open_in (reading_end q f.steps) → cx.x ≡ x_before (after im f q cx)
x_after_frame im f q cx e n =
    let o : ℕ = open_in im.end in
    let all : ℕ = length (columns f.steps) in
    e
    ∙ sym (x_moves_on (advanced im.position o) all (column_small (columns_before im.position + o)))
    ∙ ap last_x (advanced_more im.position o all (o + all) refl)
    ∙ sym (ap last_x (advanced_more im.position (o + length (counted f.steps)) (open_in (reading_end q f.steps)) (o + all) (omega arith)))

module _ {im : Image} {a : Start} (w : Stands im a) where
  follows : {ss : List Step} {q : Place} {cx : Context} → ReadingFrom a ss (bits_of_steps ss) q cx → Some ss → length (bits_of_steps ss) ≤ 508 → Follows im (frame_of a ss) q cx
  follows r x f = record {
    state = w.state;
    lengths = w.lengths;
    x = w.x;
    valid = w.valid;
    some = omega (arith, steps_bits r w.valid, some_length x);
    few = f;
    reading = r;
  }

  -- the page is finished with this frame, or without it
  final : {cs : List State} (ss : List Step) (d : StepDue) (l : Lengths) (go : Start → List State → List Frame) → not_encodable_after (is_open im.end) a.state cs ≡ false → Final a cs ss →
      Chains im (framed a (finished ss d l) go) (opening im.end a.state ++ cs)
  unfolding columns reading_end
  final {cs} [] d l go e f =
      let o = not_open im.end a.state (f.not_encodable_lem (is_open im.end) e) in
      rw (o.0, ← f.covers) (record { image = im; chain = no_frames; shut = o.1 })
  final {cs} (t ∷ ts) d l go e f =
      let u : last_enters_mixed (t ∷ ts) ≡ false = sym (turned_last (is_open im.end) t ts) ∙ f.not_encodable_lem (is_open im.end) e in
      let b = follows {ss = t ∷ ts} f.reading some f.few in
      let x : (opening im.end a.state ++ counted (t ∷ ts)) ++ [] ≡ opening im.end a.state ++ cs =
      append-nil (opening im.end a.state ++ counted (t ∷ ts)) ∙ ap (λ (ds : List State). opening im.end a.state ++ ds) (counted_all (t ∷ ts) u ∙ f.covers) in
      subst (λ (ds : List State). Chains im (frame_of a (t ∷ ts) ∷ []) ds) x
      (record { image = _; chain = and_frame b no_frames; shut = rw u (shut_at f.place_then) })

  -- a full frame, and those after it
  next : {cs ds : List State} {ss : List Step} {d : StepDue} {cx : Context} {fs : List Frame} (most : ℕ) → not_encodable_after (is_open im.end) a.state cs ≡ false → Filling a cs ss d cx ds → is_full most ss ≡ true →
      (Stands (after im (frame_of a ss) (place d) cx) (record { state = stands d; context = cx }) → not_encodable_after (is_open (reading_end (place d) ss)) (stands d) ds ≡ false →
      Chains (after im (frame_of a ss) (place d) cx) fs (opening (reading_end (place d) ss) (stands d) ++ ds)) →
      Chains im (frame_of a ss ∷ fs) (opening im.end a.state ++ cs)
  next {cs} {ds} {ss} {d} {cx} {fs} most e f z go =
      let x : Some ss = some_steps ss (omega (arith, full_columns w.valid most f z)) in
      let y = left d f.reading in
      let p : List State = opening im.end a.state in
      let o : List State = opening (reading_end (place d) ss) (stands d) in
      let u : turned (is_open im.end) ss ≡ is_open (reading_end (place d) ss) = turned_some (is_open im.end) x ∙ sym y.open_if in
      let c : length (columns ss) ≡ length (counted ss) + open_in (reading_end (place d) ss) =
      sym (ap length y.lays) ∙ length-append (counted ss) o ∙ omega (arith, length_opening (reading_end (place d) ss) (stands d)) in
      let n : cx.x ≡ x_before (after im (frame_of a ss) (place d) cx) =
      x_after_frame im (frame_of a ss) (place d) cx (counts f.reading w.valid.column ∙ ap (λ (b : ℕ). x_after b (length (columns ss))) w.x) c in
      let g = go (record { state = y.state; lengths = refl; x = n; valid = f.valid }) (rw u at (sym (f.not_encodable_lem (is_open im.end)) ∙ e)) in
      let q : (p ++ counted ss) ++ (o ++ ds) ≡ p ++ cs = rw (append_assoc p (counted ss) (o ++ ds), ← append_assoc (counted ss) o ds, y.lays, f.covers) refl in
      subst (λ (es : List State). Chains im (frame_of a ss ∷ fs) es) q
      (record { image = g.image; chain = and_frame (follows f.reading x f.few) g.chain; shut = g.shut })

-- From an image on, the frames chain and lay the columns.
frames_chain : (k most : ℕ) (a : Start) (cs : List State) (im : Image) → length cs < k → Stands im a → not_encodable_after (is_open im.end) a.state cs ≡ false →
    Chains im (frames_from k most a cs) (opening im.end a.state ++ cs)
unfolding frames_from
frames_chain zero most a cs im h w e = absurd (omega arith)
frames_chain (suc k) most a cs im h w e =
    go (fill (suc (length cs)) most [] (entered a.state) a.context cs) (filled a cs most w.valid) (frames_chain k most)
  where
    go : (x : Filled) → Fills a most cs x →
        ((a : Start) (cs : List State) (im : Image) → length cs < k → Stands im a → not_encodable_after (is_open im.end) a.state cs ≡ false → Chains im (frames_from k most a cs) (opening im.end a.state ++ cs)) →
        Chains im (framed a x (λ b ds. frames_from k most b ds)) (opening im.end a.state ++ cs)
    go (finished ss d l) f ih = final w ss d l (λ b ds. frames_from k most b ds) e f
    go (full ss d cx ds) f ih =
        let m = full_columns w.valid most f.0 f.1 in
        let less : length ds < k = omega (arith, simp length-append at (ap length f.0.covers)) in
        next w most e f.0 f.1 (λ v u. ih (record { state = stands d; context = cx }) ds (after im (frame_of a ss) (place d) cx) less v u)

valid_sevens : ValidLengths sevens
valid_sevens = record { black_low = omega arith; black_high = omega arith; white_low = omega arith; white_high = omega arith }

pub valid_page_start : ValidContext page_start.context
valid_page_start = record { lengths = valid_sevens; column = omega arith }

-- The frames of a page chain from its start, lay its columns and leave none open, if its last column can be encoded.
pub page_chain : (most : ℕ) (cs : List State) → not_encodable_after false (solid WW) cs ≡ false → Chains blank (frames_of most cs) cs
unfolding frames_of
page_chain most cs e =
    frames_chain (suc (length cs)) most page_start cs blank (omega arith)
    (record { state = refl; lengths = refl; x = sym last_laid.0; valid = valid_page_start }) e

-- ---- counts

pub chain_bits : {im jm : Image} {fs : List Frame} {cs : List State} → Chain im fs cs jm → im.bits.0 + bits_in fs ≡ jm.bits.0
unfolding bits_in
chain_bits no_frames = omega arith
chain_bits (and_frame a r) = omega (arith, chain_bits r)

pub chain_columns : {im jm : Image} {fs : List Frame} {cs : List State} → Chain im fs cs jm → columns_before im.position + length cs ≡ columns_before jm.position
chain_columns no_frames = omega arith
chain_columns {im} (and_frame {f = f} {cs = cs} a r) =
    simp length-append (omega (arith, chain_columns r, length_opening im.end f.start.state, count_after (columns_before im.position + (open_in im.end + length (counted f.steps)))))

pub chain_column : {im jm : Image} {fs : List Frame} {cs : List State} → Chain im fs cs jm → im.position.column < pels_per_line → jm.position.column < pels_per_line
chain_column no_frames h = h
chain_column {im} (and_frame {f = f} a r) h = chain_column r (column_small (columns_before im.position + (open_in im.end + length (counted f.steps))))

frames_few : (k most : ℕ) (a : Start) (cs : List State) → length (frames_from k most a cs) ≤ k
unfolding frames_from
frames_few zero most a cs = omega arith
frames_few (suc k) most a cs = go (fill (suc (length cs)) most [] (entered a.state) a.context cs) (frames_few k most)
  where
    go : (x : Filled) → ((a : Start) (cs : List State) → length (frames_from k most a cs) ≤ k) → length (framed a x (λ b ds. frames_from k most b ds)) ≤ suc k
    go (finished [] d l) ih = omega arith
    go (finished (t ∷ ts) d l) ih = omega arith
    go (full ss d cx ds) ih = omega (arith, ih (record { state = stands d; context = cx }) ds)

pub few_frames : (most : ℕ) (cs : List State) → length (frames_of most cs) ≤ suc (length cs)
unfolding frames_of
few_frames most cs = frames_few (suc (length cs)) most page_start cs
