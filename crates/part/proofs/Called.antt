-- The call's answer and output, from what the readers of steps promise. Assumes nothing.
use mathlib.Core.Path.{◌≡◌, refl, sym, ap, subst, ◌∙◌}
use mathlib.Core.Bool.{Bool, true, false, cond, false≢true}
use mathlib.Core.List.{List, ◌++◌, map}
use Prim.Native.Nat.{ℕ, ◌*◌, ◌≤◌, ◌<◌, min}
use native.Mathlib.Nat.{zero-add}
use native.Mathlib.Omega.{arith}
use borrow.Author.Tests.{lt-ltb, le-ltb, ltb-false, leb-true}
use lib.Dec.{ltb, leb}
use lib.ListN.{length, take, drop, length-append, length-map}
use lib.Seq.{take_at}
use Rattle.octets.specs.Bits.{bits_from, Bit}
use Rattle.octets.proofs.Fields.{length_bits}
use Rattle.basics.specs.Placed.{placed}
use Rattle.basics.proofs.Placed.{placed_front}
use Rattle.refusal.specs.declared.Reason.TheVariants.{CountTooLarge, SizeNotAllowed, HeaderDisagrees}
use Rattle.refusal.specs.declared.Reason.{Reason}
use Rattle.refusal.specs.Number.{number_of}
use Rattle.refusal.specs.Reply.{Reply, gives, refuses_at, refuses, Outcome, SmallPlace, delivered, if_valid, valid}
use Rattle.refusal.proofs.Replies.{with_room, no_room, delivered_place, not_accepted, same_number}
use Rattle.diagram.specs.declared.Bits.{Bits}
use Rattle.diagram.specs.declared.End.{End}
use Rattle.diagram.specs.Demand3.{Has}
use Rattle.state.specs.declared.State.{State}
use Rattle.state.specs.Pels.{pels_of}
use Rattle.position.specs.Position.{last_column}
use Rattle.diagram.specs.declared.Lengths.{Lengths}
use Rattle.diagram.specs.declared.Context.{Context}
use Rattle.diagram.specs.declared.Start.{Start}
use Rattle.diagram.specs.Diagram.{ValidLengths, ValidContext, Step, columns}
use Rattle.diagram.specs.Decoder.{end_of, Answer, refused, read, decode, Stop as Stopping}
use Rattle.diagram.proofs.Demand3.{demand_3}
use Rattle.diagram.proofs.Longest.{refused_within}
use Rattle.part_notes.specs.declared.StepsRead.{StepsRead}
use Rattle.part_notes.specs.declared.PartReading.{PartReading}
use Rattle.part_notes.specs.Notes.{onset, entry_of, spread}
use Rattle.part_steps.specs.Steps.{step_result, ReadsSteps}
use Rattle.part.specs.Call.{length_allowed, lengths_allowed, octets_of, written, answered, sizes_validity, x_judged, part_validity, read_part, CallReads}
use Rattle.part_notes.proofs.Spread.{spread_steps}
use Rattle.std.specs.Prelude.{Result, Ok, Err}

-- ---- a refusal, and a reading

abbrev stop_in : Result StepsRead Bits → StepsRead → StepsRead
stop_in (Ok f) d = f
stop_in (Err b) d = d

abbrev kind_of : Result StepsRead Bits → ℕ
kind_of (Ok f) = 0
kind_of (Err b) = 1

abbrev bits_in : Result StepsRead Bits → ℕ
bits_in (Ok f) = 0
bits_in (Err b) = b.0

pub none : (count : ℕ) (c : Context) (a : Answer) (r : Result StepsRead Bits) (es es₀ : List ℕ) (b : Bits) → ReadsSteps count (onset c) a r es es₀ → r ≡ Err b → a ≡ refused b.0
unfolding step_result
none count c (refused k) r es es₀ b w e = ap refused (sym (zero-add k) ∙ ap (λ (y : Result StepsRead Bits). bits_in y) (sym w.is ∙ e))
none count c (read ss x m) r es es₀ b w e = absurd (let z : 0 ≡ 1 = ap (λ (y : Result StepsRead Bits). kind_of y) (sym w.is ∙ e) in omega arith)

-- the steps of a reading, and the entries that hold them
pub record StepsHeld (count : ℕ) (a : Answer) (f : StepsRead) (es : List ℕ) : Type 0 where
  pub steps : List Step
  pub stop : Stopping
  pub context : Context
  pub is : a ≡ read steps stop context
  pub reading : f.reading ≡ record { bits = record { 0 = count }; columns = record { 0 = length (columns steps) }; end = end_of stop; lengths = context.lengths }
  pub held : take f.entries es ≡ map entry_of steps
  pub within : f.entries ≤ length es

pub steps_held : (count : ℕ) (c : Context) (a : Answer) (r : Result StepsRead Bits) (f : StepsRead) (es es₀ : List ℕ) → ReadsSteps count (onset c) a r es es₀ → r ≡ Ok f → StepsHeld count a f es
unfolding step_result
steps_held count c (refused k) r f es es₀ w e = absurd (let z : 1 ≡ 0 = ap (λ (y : Result StepsRead Bits). kind_of y) (sym w.is ∙ e) in omega arith)
steps_held count c (read ss x m) r f es es₀ w e =
    let g : f ≡ _ = ap (λ (y : Result StepsRead Bits). stop_in y f) (sym e ∙ w.is) in
    let n : length ss ≡ f.entries = sym (ap (λ (y : StepsRead). y.entries) g ∙ zero-add (length ss)) in
    let h : es ≡ map entry_of ss ++ drop (length (map entry_of ss)) es₀ = w.noted ∙ placed_front (map entry_of ss) es₀ in
    let k : length (map entry_of ss) ≡ length ss = length-map ss entry_of in record {
      steps = ss;
      stop = x;
      context = m;
      is = refl;
      reading = ap (λ (y : StepsRead). y.reading) g ∙ rw (zero-add (length (columns ss))) refl;
      held = rw h (take_at (map entry_of ss) (drop (length (map entry_of ss)) es₀) f.entries (k ∙ n));
      within = rw (h, length-append (map entry_of ss) (drop (length (map entry_of ss)) es₀)) (omega arith);
    }

module _ (count : ℕ) (a : Answer) (f : StepsRead) (es : List ℕ) (t : StepsHeld count a f es) where
  pub laid_octets : spread (take f.entries es) ≡ octets_of (columns t.steps)
  laid_octets = rw t.held (spread_steps t.steps)

  pub number : f.reading.columns.0 ≡ length (columns t.steps)
  number = rw t.reading refl

  pub laid_length : length (spread (take f.entries es)) ≡ f.reading.columns.0
  laid_length = rw laid_octets (length-map (columns t.steps) pels_of ∙ sym number)

  pub too_short : (o : List ℕ) (x : Reply PartReading) → x ≡ refuses 16 0 → length o < f.reading.columns.0 → (x, o) ≡ answered count a o
  too_short o x e h =
      rw (t.is, e) (no_room _ 0 (octets_of (columns t.steps)) o (rw (length-map (columns t.steps) pels_of) (rw number at h)))

  pub with_columns : (o o₁ : List ℕ) → f.reading.columns.0 ≤ length o → o₁ ≡ placed 0 (spread (take f.entries es)) o → (gives f.reading, o₁) ≡ answered count a o
  with_columns o o₁ h e =
      rw (t.is, t.reading, e, laid_octets, placed_front (octets_of (columns t.steps)) o)
      (with_room _ 0 (octets_of (columns t.steps)) o (rw (length-map (columns t.steps) pels_of) (rw number at h)))

-- ---- what is judged first

abbrev is_fine : Result Unit Reason → ℕ
is_fine (Ok _) = 1
is_fine (Err reason) = 0

differ : {reason : Reason} → ◌≡◌ {A = Result Unit Reason} (Err reason) valid → ⊥
differ h = let z : ◌≡◌ {A = ℕ} 0 1 = ap (λ (y : Result Unit Reason). is_fine y) h in omega arith

within_of : (n : ℕ) → length_allowed n ≡ true → (2 ≤ n) × (n ≤ 7)
unfolding length_allowed
within_of n h = go (ltb n 2) refl h
  where
    go : (t : Bool) → ltb n 2 ≡ t → cond t false (leb n 7) ≡ true → (2 ≤ n) × (n ≤ 7)
    go true e h = absurd (false≢true h)
    go false e h = (ltb-false n 2 e, leb-true n 7 h)

valid_of : (l : Lengths) → lengths_allowed l ≡ true → ValidLengths l
unfolding lengths_allowed
valid_of l h = let b = both (length_allowed l.black) (length_allowed l.white) h in
    let x = within_of l.black b.0 in
    let y = within_of l.white b.1 in
    record { black_low = x.0; black_high = x.1; white_low = y.0; white_high = y.1 }
  where
    both : (s t : Bool) → cond s t false ≡ true → (s ≡ true) × (t ≡ true)
    both true t h = (refl, h)
    both false t h = absurd (false≢true h)

module _ (s : List ℕ) (count : ℕ) (l : Lengths) where
  pub too_many : min 512 (8 * length s) < count → Err CountTooLarge ≡ sizes_validity s count l
  unfolding sizes_validity
  too_many h = rw (lt-ltb (min 512 (8 * length s)) count h) refl

  pub as_allowed : (t : Bool) → count ≤ min 512 (8 * length s) → lengths_allowed l ≡ t → cond t valid (Err SizeNotAllowed) ≡ sizes_validity s count l
  unfolding sizes_validity
  as_allowed t h e = rw (le-ltb (min 512 (8 * length s)) count h, e) refl

  -- bits that may be read are at most 512, and the lengths are allowed
  pub sizes_fine : sizes_validity s count l ≡ valid → (count ≤ 512) × ValidLengths l
  unfolding sizes_validity
  sizes_fine h = go (ltb (min 512 (8 * length s)) count) (lengths_allowed l) refl refl h
    where
      go : (t u : Bool) → ltb (min 512 (8 * length s)) count ≡ t → lengths_allowed l ≡ u →
          cond t (Err CountTooLarge) (cond u valid (Err SizeNotAllowed)) ≡ valid → (count ≤ 512) × ValidLengths l
      go true u e f z = absurd (differ z)
      go false false e f z = absurd (differ z)
      go false true e f z = let k = ltb-false (min 512 (8 * length s)) count e in (omega arith, valid_of l f)

module _ (s : List ℕ) (count : ℕ) (a : Start) where
  -- X is judged where count and lengths are valid
  pub sizes_first : (reason : Reason) → sizes_validity s count a.context.lengths ≡ Err reason → Err reason ≡ part_validity s count a
  unfolding part_validity
  sizes_first reason h = rw h refl

  pub x_above : sizes_validity s count a.context.lengths ≡ valid → last_column < a.context.x → Err HeaderDisagrees ≡ part_validity s count a
  unfolding part_validity
  x_above h g = rw (h, lt-ltb last_column a.context.x g) refl

  pub x_within : sizes_validity s count a.context.lengths ≡ valid → a.context.x ≤ last_column → valid ≡ part_validity s count a
  unfolding part_validity
  x_within h g = rw (h, le-ltb last_column a.context.x g) refl

  -- a data part that may be read has at most 512 bits, and its context is valid
  pub fine : part_validity s count a ≡ valid → (count ≤ 512) × ValidContext a.context
  unfolding part_validity
  fine h = go (sizes_validity s count a.context.lengths) (ltb last_column a.context.x) refl refl h
    where
      go : (j : Result Unit Reason) (t : Bool) → sizes_validity s count a.context.lengths ≡ j → ltb last_column a.context.x ≡ t → x_judged j a.context.x ≡ valid → (count ≤ 512) × ValidContext a.context
      go (Err reason) t e f z = absurd (differ z)
      go (Ok _) true e f z = absurd (differ (rw f at z))
      go (Ok _) false e f z = let n = sizes_fine s count a.context.lengths e in let x = ltb-false last_column a.context.x f in (n.0, record { lengths = n.1; column = omega arith })

  pub fine_part : (o : List ℕ) → part_validity s count a ≡ valid → answered count (decode a (bits_from s 0 count)) o ≡ read_part s count a o
  unfolding read_part
  fine_part o h = rw h refl

  pub refused_part : (o : List ℕ) (reason : Reason) (x : Reply PartReading) → part_validity s count a ≡ Err reason → x ≡ refuses (number_of reason) 0 → (x, o) ≡ read_part s count a o
  unfolding read_part
  refused_part o reason x h e = rw (h, e) refl

  pub not_fine : (reason : Reason) → part_validity s count a ≡ Err reason → part_validity s count a ≡ valid → ⊥
  not_fine reason h e = differ (sym h ∙ e)

-- ---- demand 3

-- neither an accepted reply nor one without room is refused by 11
only_refused : (count : ℕ) (x : Answer) (o : List ℕ) (k : ℕ) → (answered count x o).0 ≡ refuses_at 11 0 k → x ≡ refused k
unfolding delivered
only_refused count (refused j) o k h = ap refused (same_number h).2
only_refused count (read ss e m) o k h = absurd (go (leb (length (octets_of (columns ss))) (length o)) _ _ h)
  where
    go : (t : Bool) (v : PartReading) (p : List ℕ) → (cond {A = Outcome PartReading ℕ} t (gives v, p) (refuses 16 0, o)).0 ≡ refuses_at 11 0 k → ⊥
    go true v p q = not_accepted (sym q)
    go false v p q = let z = (same_number q).0 in omega arith

-- What the call answers on bits that may be read is what demand 3 asks.
pub call_reads : (a : Start) (bs : List Bit) (o : List ℕ) (count : ℕ) → count ≡ length bs → ValidContext a.context → (x : Outcome PartReading ℕ) → x ≡ answered count (decode a bs) o → CallReads a bs o x
call_reads a bs o count c v x e =
    subst (λ (y : Outcome PartReading ℕ). CallReads a bs o y) (sym e) whole
  where
    has : (x : Answer) (cs : List State) (e : End) (l : Lengths) → Has x cs e l → answered count x o ≡ written cs (length bs) e l o
    has (refused k) cs e l h = absurd h
    has (read ss x n) cs e l h = rw (h.0, h.1, h.2, c) refl

    whole : CallReads a bs o (answered count (decode a bs) o)
    whole = demand_3 a bs v _ _ (λ k e. only_refused count (decode a bs) o k e) (λ k e. rw e refl) (λ cs e l h. has (decode a bs) cs e l h)

-- ---- refusals

-- bits that may be read stop at one of at most 512
pub stops_within : (a : Start) (bs : List Bit) (k : ℕ) → ValidContext a.context → length bs ≤ 512 → decode a bs ≡ refused k → k < 512
stops_within a bs k v n e = let h = refused_within a bs v e in omega arith

-- a data part has no records: every refusal is at record 0
pub part_place : (s : List ℕ) (count : ℕ) (a : Start) (o : List ℕ) → SmallPlace (read_part s count a o).0
unfolding read_part
part_place s count a o = go (part_validity s count a) refl
  where
    judged : (x : Answer) → ((k : ℕ) → x ≡ refused k → k < 512) → SmallPlace (answered count x o).0
    judged (refused k) h = (omega arith, h k refl)
    judged (read ss e m) h = delivered_place _ 0 (octets_of (columns ss)) o (omega arith)

    go : (j : Result Unit Reason) → part_validity s count a ≡ j → SmallPlace (if_valid j (answered count (decode a (bits_from s 0 count)) o) o).0
    go (Err reason) e = (omega arith, omega arith)
    go (Ok _) e =
        let f = fine s count a e in
        judged (decode a (bits_from s 0 count)) (λ k d. stops_within a (bits_from s 0 count) k f.1 (rw (length_bits s 0 count) f.0) d)
