-- The next unit of some columns: its steps are a reading of their bits and lay the columns in front. A word's value fits its field, since the
-- run is shorter than all ones, or the word is all ones; and a closing word's move goes to a column of another state. Assumes nothing.
use mathlib.Core.Path.{◌≡◌, refl, sym, ap, ◌∙◌}
use mathlib.Core.Bool.{Bool, true, false, cond}
use mathlib.Core.List.{List, [], ◌∷◌, ◌++◌, append_assoc, append-nil}
use Prim.Native.Nat.{ℕ, zero, suc, ◌^◌, ◌≤◌, ◌<◌}
use native.Mathlib.Omega.{arith}
use lib.Dec.{eqb, leb}
use lib.ListN.{length, drop, replicate, length-append, length-replicate}
use borrow.Author.Tests.{eq-eqb, ne_eqb, eqb-true, leb-true, leb-false}
use Rattle.octets.specs.Bits.{field_bits, value}
use Rattle.octets.proofs.Fields.{length_field, value_field}
use Rattle.basics.proofs.Apart.{differ}
use Rattle.state.specs.declared.Mixed.{Mixed}
use Rattle.state.specs.declared.Solid.{Solid}
use Rattle.state.specs.declared.State.{State}
use Rattle.state.specs.declared.State.TheVariants.{Solid as solid, Mixed as mixed}
use Rattle.state.specs.Pels.{pels_of, state_of}
use Rattle.state.proofs.States.{state_pels}
use Rattle.diagram.specs.declared.Context.{Context}
use Rattle.field_length.specs.declared.Nth.{Nth}
use Rattle.field_length.specs.declared.Nth.TheVariants.{Later}
use Rattle.diagram.specs.Diagram.{length_of, after_move, longer, closed, full, Place, at, run, out, enter, Step, move, arc_bits, lays, columns, Allowed, moves, leaves, goes_on, closes, Reading, done, then, ValidContext, enters_mixed}
use Rattle.diagram.proofs.Contexts.{length_within, valid_after_move, valid_longer, valid_closed}
use Rattle.units.specs.declared.StepDue.{StepDue}
use Rattle.units.specs.declared.StepDue.TheVariants.{Move, Word}
use Rattle.units.specs.Units.{bits_of_steps, entered, stands, NextUnit, unit, last, ahead, ones, word_of, closing, running, next_unit}
use Rattle.roundtrip.proofs.LastColumn.{not_encodable_after}
use Rattle.diagram.proofs.Arcs.{arc_mixed, arc_solid}
use Rattle.roundtrip.proofs.Steps.{arc_one, turned, steps_bits}

-- where a reading stands when this is due
abbrev pub place : StepDue → Place
place (Move m) = at m
place (Word k s) = run k s

pub place_entered : (c : State) → place (entered c) ≡ enter c
place_entered (solid s) = refl
place_entered (mixed m) = refl

pub stands_entered : (c : State) → stands (entered c) ≡ c
stands_entered (solid s) = refl
stands_entered (mixed m) = refl

-- ---- the columns of a run

pub same_state : (c d : State) → eqb (pels_of c) (pels_of d) ≡ true → c ≡ d
same_state c d e = sym (state_pels c) ∙ ap state_of (eqb-true (pels_of c) (pels_of d) e) ∙ state_pels d

-- so many columns in front, at most, are of the state
run_ahead : (v : ℕ) (s : Solid) (cs : List State) → v ≤ ahead s cs → replicate v (solid s) ++ drop v cs ≡ cs
unfolding ahead
run_ahead zero s cs h = refl
run_ahead (suc v) s [] h = absurd (omega arith)
run_ahead (suc v) s (c ∷ cs) h = go (eqb (pels_of c) (pels_of (solid s))) refl h (run_ahead v s cs)
  where
    go : (t : Bool) → eqb (pels_of c) (pels_of (solid s)) ≡ t → suc v ≤ cond t (suc (ahead s cs)) 0 → (v ≤ ahead s cs → replicate v (solid s) ++ drop v cs ≡ cs) → replicate (suc v) (solid s) ++ drop (suc v) (c ∷ cs) ≡ c ∷ cs
    go true e h r = rw (same_state c (solid s) e) (ap (λ (ds : List State). solid s ∷ ds) (r (omega arith)))
    go false e h r = absurd (omega arith)

-- the one after them is not
after_ahead : (s : Solid) (cs : List State) {c : State} {ds : List State} → drop (ahead s cs) cs ≡ c ∷ ds → eqb (pels_of c) (pels_of (solid s)) ≡ false
unfolding ahead
after_ahead s [] e = differ cc
after_ahead s (x ∷ xs) {c} {ds} e = go (eqb (pels_of x) (pels_of (solid s))) refl e (λ f. after_ahead s xs f)
  where
    go : (t : Bool) → eqb (pels_of x) (pels_of (solid s)) ≡ t → drop (cond t (suc (ahead s xs)) 0) (x ∷ xs) ≡ c ∷ ds → (drop (ahead s xs) xs ≡ c ∷ ds → eqb (pels_of c) (pels_of (solid s)) ≡ false) → eqb (pels_of c) (pels_of (solid s)) ≡ false
    go true f e r = r e
    go false f e r = let z : x ≡ c = cc in rw z at f

-- ---- steps

ones_pos : (n : ℕ) → 2 ≤ n → 3 < 2 ^ n
ones_pos zero h = absurd (omega arith)
ones_pos (suc zero) h = absurd (omega arith)
ones_pos (suc (suc zero)) h = omega arith
ones_pos (suc (suc (suc n))) h = omega (arith, ones_pos (suc (suc n)) (omega arith))

moves_to : (m : Mixed) (c : State) (cx : Context) → Allowed (at m) cx (move (mixed m) c) (arc_bits (mixed m) c) (place (entered c)) (after_move cx)
moves_to m c cx = rw (place_entered c) (moves (arc_mixed m c))

leaves_to : (s : Solid) (c : State) (cx : Context) → eqb (pels_of c) (pels_of (solid s)) ≡ false → Allowed (out s) cx (move (solid s) c) (arc_bits (solid s) c) (place (entered c)) (after_move cx)
leaves_to s c cx e = rw (place_entered c) (leaves (arc_solid s c e))

module _ (k : Nth) (s : Solid) (cx : Context) (v : ValidContext cx) where
  goes_on_with : Allowed (run k s) cx (word_of s cx.lengths (ones (length_of s cx.lengths))) (field_bits (length_of s cx.lengths) (ones (length_of s cx.lengths))) (run Later s) (longer s (ones (length_of s cx.lengths)) cx)
  unfolding full
  goes_on_with =
      let n : ℕ = length_of s cx.lengths in
      let p = ones_pos n (length_within s cx v).0 in
      let e : value (field_bits n (ones n)) ≡ ones n = value_field n (ones n) (omega arith) in
      rw e at (goes_on {k = k} {s = s} {w = field_bits n (ones n)} {c = cx} (length_field n (ones n)) (rw e (eq-eqb (ones n) (ones n) refl)))

  closes_with : (a : ℕ) → a < ones (length_of s cx.lengths) → Allowed (run k s) cx (word_of s cx.lengths a) (field_bits (length_of s cx.lengths) a) (out s) (closed k s a cx)
  unfolding full
  closes_with a h =
      let n : ℕ = length_of s cx.lengths in
      let e : value (field_bits n a) ≡ a = value_field n a (omega arith) in
      rw e at (closes {k = k} {s = s} {w = field_bits n a} {c = cx} (length_field n a) (rw e (ne_eqb a (ones n) (λ z. omega arith))))

-- the columns of a word
lays_word : (s : Solid) (cx : Context) (a : ℕ) → a < 2 ^ length_of s cx.lengths → lays (word_of s cx.lengths a) ≡ replicate a (solid s)
unfolding lays
lays_word s cx a h = rw (value_field (length_of s cx.lengths) a h) refl

-- ---- the last column

-- after columns of a run
pub run_passed : (a : ℕ) (s : Solid) (b : Bool) (cs : List State) → 0 < a → not_encodable_after b (solid s) (replicate a (solid s) ++ cs) ≡ not_encodable_after false (solid s) cs
unfolding not_encodable_after
run_passed zero s b cs h = absurd (omega arith)
run_passed (suc zero) s b cs h = refl
run_passed (suc (suc a)) s b cs h = run_passed (suc a) s false cs (omega arith)

-- after the column that follows them
move_passed : (a : ℕ) (s : Solid) (b : Bool) (c : State) (cs : List State) → not_encodable_after b (solid s) (replicate a (solid s) ++ c ∷ cs) ≡ not_encodable_after (enters_mixed (move (solid s) c)) c cs
unfolding not_encodable_after
move_passed zero s b c cs = refl
move_passed (suc a) s b c cs = move_passed a s false c cs

-- ---- the next unit

-- a unit of these columns: its steps, what is due then, the context then and the columns left
pub record UnitReads (d : StepDue) (cx : Context) (cs : List State) (ts : List Step) (e : StepDue) (m : Context) (ds : List State) : Type 0 where
  pub reading : Reading (place d) cx ts (bits_of_steps ts) (place e) m
  pub valid : ValidContext m
  pub few : length (bits_of_steps ts) ≤ 8
  pub some : 1 ≤ length (columns ts)
  pub covers : columns ts ++ ds ≡ cs
  pub not_encodable_lem : (b f : Bool) → not_encodable_after b (stands d) cs ≡ not_encodable_after (turned f ts) (stands e) ds

-- the steps that end the page
pub record LastReads (d : StepDue) (cx : Context) (cs : List State) (ts : List Step) : Type 0 where
  pub place_then : Place
  pub context_then : Context
  pub reading : Reading (place d) cx ts (bits_of_steps ts) place_then context_then
  pub few : length (bits_of_steps ts) ≤ 8
  pub covers : columns ts ≡ cs
  pub not_encodable_lem : (b : Bool) → not_encodable_after b (stands d) cs ≡ false → turned b ts ≡ false

abbrev pub UnitReading : StepDue → Context → List State → NextUnit → Type 0
UnitReading d cx cs (unit ts e m ds) = UnitReads d cx cs ts e m ds
UnitReading d cx cs (last ts) = LastReads d cx cs ts

tells_move : (m : Mixed) (c : State) (cx : Context) (cs : List State) → ValidContext cx → UnitReads (Move m) cx (c ∷ cs) (move (mixed m) c ∷ []) (entered c) (after_move cx) cs
unfolding bits_of_steps columns lays not_encodable_after
tells_move m c cx cs v =
    let r : Reading (at m) cx (move (mixed m) c ∷ []) (arc_bits (mixed m) c ++ []) (place (entered c)) (after_move cx) = then (moves_to m c cx) done in
    record {
      reading = r;
      valid = valid_after_move cx v;
      few = omega (arith, steps_bits r v);
      some = omega arith;
      covers = refl;
      not_encodable_lem = λ b f. rw (stands_entered c) refl;
    }

tells_ones : (k : Nth) (s : Solid) (cx : Context) (cs : List State) → ValidContext cx → ones (length_of s cx.lengths) ≤ ahead s cs →
    UnitReads (Word k s) cx cs (word_of s cx.lengths (ones (length_of s cx.lengths)) ∷ []) (Word Later s) (longer s (ones (length_of s cx.lengths)) cx) (drop (ones (length_of s cx.lengths)) cs)
unfolding bits_of_steps columns
tells_ones k s cx cs v h =
    let n : ℕ = length_of s cx.lengths in
    let p = ones_pos n (length_within s cx v).0 in
    let r : Reading (run k s) cx (word_of s cx.lengths (ones n) ∷ []) (field_bits n (ones n) ++ []) (run Later s) (longer s (ones n) cx) = then (goes_on_with k s cx v) done in
    let e : lays (word_of s cx.lengths (ones n)) ≡ replicate (ones n) (solid s) = lays_word s cx (ones n) (omega arith) in
    let q = run_ahead (ones n) s cs h in
    record {
      reading = r;
      valid = valid_longer s (ones n) cx v;
      few = omega (arith, steps_bits r v);
      some = rw (append-nil (lays (word_of s cx.lengths (ones n))), e) (omega (arith, length-replicate {0} {A = State} (ones n) (solid s)));
      covers = rw (append-nil (lays (word_of s cx.lengths (ones n))), e) q;
      not_encodable_lem = λ b f. ap (not_encodable_after b (solid s)) (sym q) ∙ run_passed (ones n) s b (drop (ones n) cs) (omega arith);
    }

tells_closing : (k : Nth) (s : Solid) (cx : Context) (a : ℕ) (cs ds : List State) → ValidContext cx → a < ones (length_of s cx.lengths) → replicate a (solid s) ++ ds ≡ cs →
    ((c : State) (es : List State) → ds ≡ c ∷ es → eqb (pels_of c) (pels_of (solid s)) ≡ false) → UnitReading (Word k s) cx cs (closing k s cx a ds)
unfolding bits_of_steps columns lays
tells_closing k s cx a cs [] v h e n =
    let r : Reading (run k s) cx (word_of s cx.lengths a ∷ []) (field_bits (length_of s cx.lengths) a ++ []) (out s) (closed k s a cx) = then (closes_with k s cx v a h) done in
    record {
      place_then = out s;
      context_then = closed k s a cx;
      reading = r;
      few = omega (arith, steps_bits r v);
      covers = rw (value_field (length_of s cx.lengths) a (omega arith)) e;
      not_encodable_lem = λ b f. refl;
    }
tells_closing k s cx a cs (c ∷ ds) v h e n =
    let x = closes_with k s cx v a h in
    let r : Reading (run k s) cx (word_of s cx.lengths a ∷ move (solid s) c ∷ []) (field_bits (length_of s cx.lengths) a ++ (arc_bits (solid s) c ++ [])) (place (entered c)) (after_move (closed k s a cx)) =
    then x (then (leaves_to s c (closed k s a cx) (n c ds refl)) done) in
    record {
      reading = r;
      valid = valid_after_move (closed k s a cx) (valid_closed k s a cx v);
      few = rw (append-nil (arc_bits (solid s) c), length-append (field_bits (length_of s cx.lengths) a) (arc_bits (solid s) c)) (omega (arith, length_field (length_of s cx.lengths) a, arc_one s c, length_within s cx v));
      some = rw (length-append (replicate (value (field_bits (length_of s cx.lengths) a)) (solid s)) (c ∷ [])) (omega arith);
      covers = rw (value_field (length_of s cx.lengths) a (omega arith), append_assoc (replicate a (solid s)) (c ∷ []) ds) e;
      not_encodable_lem = λ b f. ap (not_encodable_after b (solid s)) (sym e) ∙ move_passed a s b c ds ∙ rw (stands_entered c) refl;
    }

tells_run : (t : Bool) (k : Nth) (s : Solid) (cx : Context) (cs : List State) → ValidContext cx → leb (ones (length_of s cx.lengths)) (ahead s cs) ≡ t → UnitReading (Word k s) cx cs (running t k s cx cs)
tells_run true k s cx cs v e = tells_ones k s cx cs v (leb-true _ _ e)
tells_run false k s cx cs v e =
    tells_closing k s cx (ahead s cs) cs (drop (ahead s cs) cs) v (leb-false _ _ e) (run_ahead (ahead s cs) s cs (omega arith)) (λ c es f. after_ahead s cs f)

-- The next unit is a reading of its bits, and lays the columns in front.
pub unit_reading : (d : StepDue) (cx : Context) (cs : List State) → ValidContext cx → UnitReading d cx cs (next_unit d cx cs)
unfolding next_unit
unit_reading (Move m) cx [] v = unfold bits_of_steps columns not_encodable_after in record { place_then = at m; context_then = cx; reading = done; few = omega arith; covers = refl; not_encodable_lem = λ b e. e }
unit_reading (Move m) cx (c ∷ cs) v = tells_move m c cx cs v
unit_reading (Word k s) cx cs v = tells_run (leb (ones (length_of s cx.lengths)) (ahead s cs)) k s cx cs v refl
