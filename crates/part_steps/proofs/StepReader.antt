-- What the readers of steps promise, path by path: a step noted in front of what the rest promises, and so turn by turn of a reader's loop
-- (Goes). Assumes nothing.
use mathlib.Core.Path.{◌≡◌, refl, sym, ap, ◌∙◌}
use mathlib.Core.List.{List, [], ◌∷◌, ◌++◌, map}
use Prim.Native.Nat.{ℕ, suc, ◌+◌, ◌*◌, ◌-◌, ◌≤◌, ◌<◌}
use native.Mathlib.Nat.{add-zero, sub-zero}
use native.Mathlib.Omega.{arith}
use lib.ListN.{length, take, drop, set, length-set, length-append, length-replicate, length-take}
use Rattle.octets.specs.Bits.{Bit, bits_from, value}
use Rattle.octets.proofs.Fields.{length_bits, bits_behind}
use Rattle.basics.proofs.Placed.{placed_none, placed_set}
use Rattle.state.specs.declared.Mixed.{Mixed}
use Rattle.state.specs.declared.Mixed.TheVariants.{WB, BW}
use Rattle.state.specs.declared.Solid.{Solid}
use Rattle.state.specs.declared.Solid.TheVariants.{WW, BB}
use Rattle.state.specs.declared.State.{State}
use Rattle.state.specs.declared.State.TheVariants.{Solid as solid, Mixed as mixed}
use Rattle.state.specs.Pels.{pels_of}
use Rattle.diagram.specs.declared.Lengths.{Lengths}
use Rattle.diagram.specs.declared.Context.{Context}
use Rattle.diagram.specs.declared.Start.{Start}
use Rattle.field_length.specs.declared.Nth.{Nth}
use Rattle.diagram.specs.Diagram.{cross, ValidLengths, after_columns, Place, at, run, out, enter, Step, move, word, step_bits, arc_bits, lays, columns, end_at}
use Rattle.diagram.specs.Decoder.{end_of, Stop, stopped, Answer, refused, read, onto, begin, finish, decode_from, starts, decode_at, decode}
use Rattle.diagram.proofs.Contexts.{valid_after_columns}
use Rattle.part_notes.specs.declared.PartProgress.{PartProgress}
use Rattle.part_next.specs.declared.MixedMove.{MixedMove}
use Rattle.part_next.specs.declared.SolidMove.{SolidMove}
use Rattle.part_next.specs.declared.Word.{Word}
use Rattle.part_next.specs.declared.Fetched.{Fetched}
use Rattle.part_notes.specs.Notes.{onset, onward, StepFits, entry_of, stopped_at}
use Rattle.part_steps.specs.Steps.{step_result, ReadsSteps, rest, Ready}
use Rattle.part_next.specs.Next.{Moves, Words, Leaves, AtFront, taking, wording}
use Rattle.part_next.proofs.Moves.{none}
use Rattle.std.specs.Prelude.{Result, Ok, Err, Option}
use Rattle.diagram.specs.declared.Bits.{Bits}
use Rattle.part_notes.specs.declared.StepsRead.{StepsRead}

module _ (s : List ℕ) (from count : ℕ) (p : PartProgress) where
  length_rest : length (rest s from count p) ≡ count - p.bits.0
  length_rest = length_bits s (from + p.bits.0) (count - p.bits.0)

  rest_onward : (k v : ℕ) (l : Lengths) → p.bits.0 + k ≤ count → drop k (rest s from count p) ≡ rest s from count (onward p (record { 0 = k }) (record { 0 = v }) l)
  rest_onward k v l h =
      let e : from + p.bits.0 + k ≡ from + (p.bits.0 + k) = omega arith in
      let d : count - p.bits.0 - k ≡ count - (p.bits.0 + k) = omega arith in
      bits_behind s (from + p.bits.0) k (count - p.bits.0) (omega arith) ∙ rw (e, d) refl

  rest_none : p.bits.0 ≡ count → rest s from count p ≡ []
  rest_none h = none s (from + p.bits.0) (count - p.bits.0) (omega arith)

-- ---- a step in front

walks_onto : (x : Step) (count k v : ℕ) (l : Lengths) (p : PartProgress) (a : Answer) (r : Result StepsRead Bits) (es es₀ : List ℕ) →
    k ≡ length (step_bits x) → v ≡ length (lays x) → p.entries < length es₀ →
    ReadsSteps count (onward p (record { 0 = k }) (record { 0 = v }) l) a r es (set es₀ p.entries (entry_of x)) → ReadsSteps count p (onto x a) r es es₀
unfolding onto step_result columns
walks_onto x count k v l p (refused j) r es es₀ f e h w =
    let n : p.bits.0 + k + j ≡ p.bits.0 + (length (step_bits x) + j) = omega (arith, f) in
    record { is = w.is ∙ ap (λ (i : ℕ). Err (record { 0 = i })) n; noted = tt }
walks_onto x count k v l p (read ss y m) r es es₀ f e h w = record {
  is = w.is ∙ counts;
  noted = w.noted ∙ placed_set p.entries (entry_of x) (map entry_of ss) es₀ h;
}
  where
    counts : step_result count (onward p (record { 0 = k }) (record { 0 = v }) l) (read ss y m) ≡ step_result count p (read (x ∷ ss) y m)
    counts =
        let n : p.entries + 1 + length ss ≡ p.entries + suc (length ss) = omega arith in
        let c : p.columns.0 + v + length (columns ss) ≡ p.columns.0 + length (lays x ++ columns ss) =
        rw (length-append (lays x) (columns ss), ← e) (omega arith) in
        rw (n, c) refl

-- ---- the paths

-- what a call answered, once its case is known
pub moves_are : (m : Mixed) (bs : List Bit) (r r₁ : Result MixedMove Bits) → Moves m bs r → r ≡ r₁ → Moves m bs r₁
moves_are m bs r r₁ h e = rw e at h

pub words_are : (k : Nth) (t : Solid) (c : Context) (bs : List Bit) (r r₁ : Option Word) → Words k t c bs r → r ≡ r₁ → Words k t c bs r₁
words_are k t c bs r r₁ h e = rw e at h

pub leaves_are : (bs : List Bit) (r r₁ : Option SolidMove) → Leaves bs r → r ≡ r₁ → Leaves bs r₁
leaves_are bs r r₁ h e = rw e at h

-- a step, noted as an entry, and what is promised after it
module _ (s : List ℕ) (from count : ℕ) (p : PartProgress) where
  through : (a : Answer) (x : Step) (q : Place) (k v e : ℕ) (l : Lengths) (p₁ : PartProgress) (r : Result StepsRead Bits) (es es₀ : List ℕ) →
      a ≡ onto x (decode_at q (after_columns v l p.context) (drop k (rest s from count p))) → 1 ≤ k → k ≤ length (rest s from count p) → Ready (length es₀) from count p → k ≡ length (step_bits x) → v ≡ length (lays x) → e ≡ entry_of x →
      p₁ ≡ onward p (record { 0 = k }) (record { 0 = v }) l →
      ReadsSteps count p₁ (decode_at q p₁.context (rest s from count p₁)) r es (set es₀ p.entries e) → ReadsSteps count p a r es es₀
  through a x q k v e l p₁ r es es₀ a-is i h t k-is v-is e-is p-is w =
      let z = length_rest s from count p in
      let u = t.taken in
      let g : p.bits.0 + k ≤ count = omega arith in
      let n : p.entries < length es₀ = (let f = t.fewer in let y = t.fits in omega arith) in
      rw (a-is, rest_onward s from count p k v l g) (walks_onto x count k v l p (decode_at q (after_columns v l p.context) (rest s from count (onward p (record { 0 = k }) (record { 0 = v }) l))) r es es₀ k-is v-is n (rw (p-is, e-is) at w))

-- an answer of no steps, and a refusal
ends_with : (count : ℕ) (p : PartProgress) (a : Answer) (e : Stop) (c : Context) (es : List ℕ) → a ≡ read [] e c → c.lengths ≡ p.context.lengths →
    ReadsSteps count p a (Ok (stopped_at p count (end_of e))) es es
unfolding step_result columns
ends_with count p a e c es h g = rw (h, g) record { is = rw (add-zero p.entries, add-zero p.columns.0) refl; noted = sym (placed_none p.entries es) }

-- no bits are left
nothing : (q : Place) (c : Context) → decode_at q c [] ≡ read [] (stopped q) c
unfolding decode_at starts begin decode_from finish
nothing (at BW) c = refl
nothing (at WB) c = refl
nothing (run k t) c = refl
nothing (out t) c = refl

ends : (s : List ℕ) (from count : ℕ) (p : PartProgress) (q : Place) (es : List ℕ) → p.bits.0 ≡ count →
    ReadsSteps count p (decode_at q p.context (rest s from count p)) (Ok (stopped_at p count (end_at q))) es es
ends s from count p q es h = ends_with count p _ (stopped q) p.context es (rw (rest_none s from count p h) (nothing q p.context)) refl

no_reading_lem : (count : ℕ) (p : PartProgress) (k : ℕ) (a : Answer) (r : Result StepsRead Bits) (es es₀ : List ℕ) → a ≡ refused k → r ≡ Err (record { 0 = p.bits.0 + k }) → ReadsSteps count p a r es es₀
unfolding step_result
no_reading_lem count p k a r es es₀ h e = rw h record { is = e; noted = tt }

-- ---- the bits of moves

pub stay_bits : (m : Mixed) → 1 ≡ length (arc_bits (mixed m) (mixed m))
unfolding arc_bits
stay_bits BW = refl
stay_bits WB = refl

pub cross_bits : (m : Mixed) → 3 ≡ length (arc_bits (mixed m) (mixed (cross m)))
unfolding arc_bits
cross_bits BW = refl
cross_bits WB = refl

pub leave_bits : (m : Mixed) (s : Solid) → 4 ≡ length (arc_bits (mixed m) (solid s))
unfolding arc_bits
leave_bits BW WW = refl
leave_bits BW BB = refl
leave_bits WB WW = refl
leave_bits WB BB = refl

pub out_bits : (s : Solid) (b : State) → 1 ≡ length (arc_bits (solid s) b)
unfolding arc_bits
out_bits s (solid t) = refl
out_bits s (mixed m) = refl

-- ---- the loops

-- what comes after a step is ready too
ready_onward : {room room₁ from count : ℕ} {p p₁ : PartProgress} (k v : ℕ) (l : Lengths) → Ready room from count p → room₁ ≡ room → p₁ ≡ onward p (record { 0 = k }) (record { 0 = v }) l →
    1 ≤ k → k ≤ count - p.bits.0 → v ≤ 127 * k → ValidLengths l → Ready room₁ from count p₁
ready_onward {p = p} k v l r d e h g b u = rw (e, d) record {
  place = r.place;
  bits = r.bits;
  fits = r.fits;
  taken = let f = r.taken in omega arith;
  fewer = let f = r.fewer in omega arith;
  laid = let f = r.laid in omega arith;
  valid = valid_after_columns v l p.context u;
}

-- a reader that began at a place, with a progress and entries, has come to others: what is promised from here on is promised from there on
pub record Goes (s : List ℕ) (from count : ℕ) (q₀ : Place) (p₀ : PartProgress) (es₀ : List ℕ) (q : Place) (p : PartProgress) (es : List ℕ) : Type 0 where
  pub ready : Ready (length es) from count p
  pub as_long : length es ≡ length es₀
  pub behind : p₀.bits.0 ≤ p.bits.0
  pub whole : (r : Result StepsRead Bits) (es₁ : List ℕ) → ReadsSteps count p (decode_at q p.context (rest s from count p)) r es₁ es →
      ReadsSteps count p₀ (decode_at q₀ p₀.context (rest s from count p₀)) r es₁ es₀

pub goes_start : {s : List ℕ} {from count : ℕ} {q : Place} {p : PartProgress} {es : List ℕ} → Ready (length es) from count p → Goes s from count q p es q p es
goes_start h = record { ready = h; as_long = refl; behind = omega arith; whole = λ r es₁ w. w }

module _ {s : List ℕ} {from count : ℕ} {q₀ : Place} {p₀ : PartProgress} {es₀ : List ℕ} {q : Place} {p : PartProgress} {es : List ℕ} (g : Goes s from count q₀ p₀ es₀ q p es) where
  -- a step takes bits
  goes_step : (x : Step) (q₁ : Place) (k v e : ℕ) (l : Lengths) (p₁ : PartProgress) → decode_at q p.context (rest s from count p) ≡ onto x (decode_at q₁ (after_columns v l p.context) (drop k (rest s from count p))) →
      1 ≤ k → k ≤ length (rest s from count p) → k ≡ length (step_bits x) → v ≡ length (lays x) → v ≤ 127 * k → ValidLengths l → e ≡ entry_of x → p₁ ≡ onward p (record { 0 = k }) (record { 0 = v }) l →
      Goes s from count q₀ p₀ es₀ q₁ p₁ (set es p.entries e) × (p.bits.0 < p₁.bits.0)
  goes_step x q₁ k v e l p₁ a-is some enough k-is v-is few l-is e-is p-is =
      let n : k ≤ count - p.bits.0 = rw (length_rest s from count p) at enough in
      let more : p.bits.0 < p₁.bits.0 = rw p-is (omega arith) in (
        record {
          ready = ready_onward k v l g.ready (simp length-set) p-is some n few l-is;
          as_long = simp length-set g.as_long;
          behind = let b = g.behind in omega arith;
          whole = λ r es₁ w. g.whole r es₁ (through s from count p _ x q₁ k v e l p₁ r es₁ es a-is some enough g.ready k-is v-is e-is p-is w);
        },
        more,
      )

  -- there is room for a step of k bits and v columns
  pub goes_room : (k v : ℕ) → k ≤ length (rest s from count p) → 1 ≤ k → v < 128 → StepFits (length es) (record { 0 = k }) (record { 0 = v }) p
  goes_room k v h some few =
      let z = length_rest s from count p in
      let r = g.ready in
      let b = r.bits in
      let t = r.taken in
      let c = r.laid in
      let e = r.fewer in
      let f = r.fits in
      record { entry = omega arith; bits = omega arith; columns = omega arith; few = few; x = r.valid.column }

  -- and k of the bits that are left are among the first 512
  pub goes_within : (k : ℕ) → k ≤ length (rest s from count p) → p.bits.0 + k ≤ 512
  goes_within k h =
      let z = length_rest s from count p in
      let b = g.ready.bits in
      let t = g.ready.taken in
      omega arith

  -- a move, and a word, that are noted
  pub goes_move : {p₁ : PartProgress} {es₁ : List ℕ} (x b b₁ : State) (k : ℕ) → decode_at q p.context (rest s from count p) ≡ taking x b k p.context (rest s from count p) →
      1 ≤ k → k ≤ length (rest s from count p) → k ≡ length (arc_bits x b) → b₁ ≡ b → (p₁ ≡ onward p (record { 0 = k }) (record { 0 = 1 }) p.context.lengths) × (es₁ ≡ set es p.entries (4 * 1 + pels_of b₁)) →
      Goes s from count q₀ p₀ es₀ (enter b₁) p₁ es₁ × (p.bits.0 < p₁.bits.0)
  unfolding lays
  goes_move {p₁} {es₁} x b b₁ k a-is some enough k-is b-is n =
      rw n.1 (goes_step (move x b₁) (enter b₁) k 1 (4 * 1 + pels_of b₁) p.context.lengths p₁ (a-is ∙ ap (λ (y : State). taking x y k p.context (rest s from count p)) (sym b-is)) some enough (k-is ∙ ap (λ (y : State). length (arc_bits x y)) (sym b-is)) refl
      (omega arith) g.ready.valid.lengths refl n.0)

  pub goes_word : {p₁ : PartProgress} {es₁ : List ℕ} (t : Solid) (q₁ : Place) (f : Fetched) → decode_at q p.context (rest s from count p) ≡ wording t q₁ f p.context (rest s from count p) →
      AtFront (rest s from count p) f → (p₁ ≡ onward p f.bits f.columns f.lengths) × (es₁ ≡ set es p.entries (4 * f.columns.0 + pels_of (solid t))) →
      Goes s from count q₀ p₀ es₀ q₁ p₁ es₁ × (p.bits.0 < p₁.bits.0)
  unfolding lays
  goes_word {p₁} {es₁} t q₁ f a-is h n =
      rw n.1 (goes_step (word t (take f.bits.0 (rest s from count p))) q₁ f.bits.0 f.columns.0 (4 * f.columns.0 + pels_of (solid t)) f.lengths p₁ a-is (let z = h.some in omega arith) h.enough
      (let z = h.enough in rw (length-take f.bits.0 (rest s from count p)) (omega arith)) (h.value_is ∙ sym (length-replicate (value (take f.bits.0 (rest s from count p))) (solid t))) (let z = h.some in let y = h.below in omega arith) h.valid
      (ap (λ (v : ℕ). 4 * v + pels_of (solid t)) h.value_is) n.0)

  -- the ends: no bits are left, an answer of no steps, a refusal
  pub goes_ends : (r : Result StepsRead Bits) → p.bits.0 ≡ count → r ≡ Ok (stopped_at p count (end_at q)) → ReadsSteps count p₀ (decode_at q₀ p₀.context (rest s from count p₀)) r es es₀
  goes_ends r h e = g.whole r es (rw e (ends s from count p q es h))

  pub goes_ends_with : (e : Stop) (c : Context) (r : Result StepsRead Bits) → decode_at q p.context (rest s from count p) ≡ read [] e c → c.lengths ≡ p.context.lengths → r ≡ Ok (stopped_at p count (end_of e)) →
      ReadsSteps count p₀ (decode_at q₀ p₀.context (rest s from count p₀)) r es es₀
  goes_ends_with e c r h l d = g.whole r es (rw d (ends_with count p _ e c es h l))

  pub goes_nowhere : (k : ℕ) (r : Result StepsRead Bits) → decode_at q p.context (rest s from count p) ≡ refused k → r ≡ Err (record { 0 = p.bits.0 + k }) → ReadsSteps count p₀ (decode_at q₀ p₀.context (rest s from count p₀)) r es es₀
  goes_nowhere k r h e = g.whole r es (no_reading_lem count p k _ r es es h e)

-- from the start
pub whole_part : (s : List ℕ) (from count : ℕ) (a : Start) (b : State) (r : Result StepsRead Bits) (es es₀ : List ℕ) → a.state ≡ b →
    ReadsSteps count (onset a.context) (decode_at (enter b) a.context (rest s from count (onset a.context))) r es es₀ → ReadsSteps count (onset a.context) (decode a (bits_from s from count)) r es es₀
unfolding decode
whole_part s from count a b r es es₀ e w = rw e (rw (add-zero from, sub-zero count) at w)
