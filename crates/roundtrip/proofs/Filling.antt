-- One frame. Unit by unit its steps stay a reading from its start, and lay the columns in front: so they do when it is full
-- and when the page is finished. It has at most 500 bits before its last unit, and a unit has at most 8. Assumes nothing.
use mathlib.Core.Path.{◌≡◌, refl, sym, ap, ◌∙◌}
use mathlib.Core.Bool.{Bool, true, false, cond, ◌||◌}
use mathlib.Core.List.{List, [], ◌++◌, append_assoc}
use Prim.Native.Nat.{ℕ, zero, suc, ◌+◌, ◌*◌, ◌≤◌, ◌<◌, min}
use native.Mathlib.Omega.{arith}
use lib.Dec.{ltb}
use lib.ListN.{length, length-append}
use borrow.Author.Tests.{ltb-true, ltb-false}
use Rattle.basics.proofs.Apart.{differ}
use Rattle.state.specs.declared.State.{State}
use Rattle.diagram.specs.declared.Context.{Context}
use Rattle.diagram.specs.declared.Start.{Start}
use Rattle.diagram.specs.Diagram.{Place, Step, columns, ReadingFrom, done, ValidContext}
use Rattle.units.specs.declared.StepDue.{StepDue}
use Rattle.units.specs.declared.StepDue.TheVariants.{Move, Word}
use Rattle.units.specs.Units.{bits_of_steps, entered, stands, NextUnit, unit, last, next_unit}
use Rattle.units.proofs.Steps.{codes_append, columns_append, length_codes}
use Rattle.writer_fill.specs.Frames.{Filled, full, finished, is_full, taking, fill}
use Rattle.roundtrip.proofs.LastColumn.{not_encodable_after}
use Rattle.roundtrip.proofs.Steps.{join, turned, turned_append}
use Rattle.roundtrip.proofs.Amortised.{credit, potentials, potentials_most, credit_run, part_pays}
use Rattle.roundtrip.proofs.Readings.{place, place_entered, stands_entered, UnitReads, LastReads, UnitReading, unit_reading}

-- a frame with the steps ss, where all these columns are to be encoded from a start on: d is due, in the context cx, and cs are left
pub record Filling (a : Start) (all : List State) (ss : List Step) (d : StepDue) (cx : Context) (cs : List State) : Type 0 where
  pub reading : ReadingFrom a ss (bits_of_steps ss) (place d) cx
  pub valid : ValidContext cx
  pub few : length (bits_of_steps ss) ≤ 508
  pub covers : columns ss ++ cs ≡ all
  pub not_encodable_lem : (b : Bool) → not_encodable_after b a.state all ≡ not_encodable_after (turned b ss) (stands d) cs

-- one with which the page is finished
pub record Final (a : Start) (all : List State) (ss : List Step) : Type 0 where
  pub place_then : Place
  pub context_then : Context
  pub reading : ReadingFrom a ss (bits_of_steps ss) place_then context_then
  pub few : length (bits_of_steps ss) ≤ 508
  pub covers : columns ss ≡ all
  pub not_encodable_lem : (b : Bool) → not_encodable_after b a.state all ≡ false → turned b ss ≡ false

abbrev pub Fills : Start → ℕ → List State → Filled → Type 0
Fills a most all (full ss d cx cs) = Filling a all ss d cx cs × (is_full most ss ≡ true)
Fills a most all (finished ss d l) = Final a all ss

-- ---- when a frame is full

credit_due : (d : StepDue) → 3 ≤ credit (place d)
credit_due (Move m) = omega arith
credit_due (Word k s) = credit_run k s

not_full : (most : ℕ) (ss : List Step) → is_full most ss ≡ false → length (bits_of_steps ss) ≤ 500
unfolding is_full
not_full most ss e = go (ltb 500 (length (bits_of_steps ss))) refl e
  where
    go : (t : Bool) → ltb 500 (length (bits_of_steps ss)) ≡ t → (t || ltb most (length (columns ss))) ≡ false → length (bits_of_steps ss) ≤ 500
    go true f e = differ cc
    go false f e = ltb-false 500 (length (bits_of_steps ss)) f

-- why a frame is full
pub data Reached (most : ℕ) (ss : List Step) : Type 0 where
  many_bits : 500 < length (bits_of_steps ss) → Reached most ss
  many_columns : most < length (columns ss) → Reached most ss

pub reached : (most : ℕ) (ss : List Step) → is_full most ss ≡ true → Reached most ss
unfolding is_full
reached most ss e = go (ltb 500 (length (bits_of_steps ss))) refl e
  where
    go : (t : Bool) → ltb 500 (length (bits_of_steps ss)) ≡ t → (t || ltb most (length (columns ss))) ≡ true → Reached most ss
    go true f e = many_bits (ltb-true 500 (length (bits_of_steps ss)) f)
    go false f e = many_columns (ltb-true most (length (columns ss)) e)

module _ {a : Start} {all : List State} {ss : List Step} (v : ValidContext a.context) where
  -- its bits are paid for by its columns and by what is in store
  pub filling_pays : {d : StepDue} {cx : Context} {cs : List State} → Filling a all ss d cx cs → length (bits_of_steps ss) + potentials cx.lengths ≤ 4 * length (columns ss) + potentials a.context.lengths
  filling_pays {d} f = omega (arith, part_pays a.state f.reading v, credit_due d)

  pub final_pays : Final a all ss → length (bits_of_steps ss) ≤ 4 * length (columns ss) + (potentials a.context.lengths + 3)
  final_pays f = omega (arith, part_pays a.state f.reading v)

  -- A full frame has at least 121 columns, or more than the rate allows.
  pub full_columns : {d : StepDue} {cx : Context} {cs : List State} (most : ℕ) → Filling a all ss d cx cs → is_full most ss ≡ true → min 120 most < length (columns ss)
  full_columns most f e = go (reached most ss e)
    where
      go : Reached most ss → min 120 most < length (columns ss)
      go (many_bits h) = omega (arith, filling_pays f, potentials_most a.context v)
      go (many_columns h) = omega arith

-- ---- unit by unit

module _ (a : Start) (all : List State) where
  pub filling_first : ValidContext a.context → Filling a all [] (entered a.state) a.context all
  unfolding bits_of_steps columns
  filling_first v = record {
    reading = rw (place_entered a.state) done;
    valid = v;
    few = omega arith;
    covers = refl;
    not_encodable_lem = λ b. rw (stands_entered a.state) refl;
  }

  module _ {ss : List Step} {d : StepDue} {cx : Context} {cs : List State} (f : Filling a all ss d cx cs) (n : length (bits_of_steps ss) ≤ 500) where
    unit_on : {ts : List Step} {e : StepDue} {m : Context} {ds : List State} → UnitReads d cx cs ts e m ds → Filling a all (ss ++ ts) e m ds
    unit_on {ts} {e} {m} {ds} u = record {
      reading = rw (codes_append ss ts) (join f.reading u.reading);
      valid = u.valid;
      few = rw (length_codes ss ts) (omega (arith, u.few));
      covers = rw (columns_append ss ts, append_assoc (columns ss) (columns ts) ds, u.covers) f.covers;
      not_encodable_lem = λ b. rw (turned_append b ss ts) (f.not_encodable_lem b ∙ u.not_encodable_lem (turned b ss) (turned b ss));
    }

    last_on : {ts : List Step} → LastReads d cx cs ts → Final a all (ss ++ ts)
    last_on {ts} u = record {
      place_then = u.place_then;
      context_then = u.context_then;
      reading = rw (codes_append ss ts) (join f.reading u.reading);
      few = rw (length_codes ss ts) (omega (arith, u.few));
      covers = rw (columns_append ss ts, u.covers) f.covers;
      not_encodable_lem = λ b e. rw (turned_append b ss ts) (u.not_encodable_lem (turned b ss) (sym (f.not_encodable_lem b) ∙ e));
    }

  unit_less : {d e : StepDue} {cx m : Context} {cs ds : List State} {ts : List Step} → UnitReads d cx cs ts e m ds → length ds < length cs
  unit_less {ds} {ts} u = omega (arith, u.some, simp length-append at (ap length u.covers))

  pub fills : (n most : ℕ) (ss : List Step) (d : StepDue) (cx : Context) (cs : List State) → length cs < n → Filling a all ss d cx cs → Fills a most all (fill n most ss d cx cs)
  unfolding fill
  fills zero most ss d cx cs h f = absurd (omega arith)
  fills (suc n) most ss d cx cs h f = go (fills n most) (is_full most ss) refl
    where
      took : ((ss : List Step) (d : StepDue) (cx : Context) (cs : List State) → length cs < n → Filling a all ss d cx cs → Fills a most all (fill n most ss d cx cs)) → length (bits_of_steps ss) ≤ 500 →
          (x : NextUnit) → UnitReading d cx cs x → Fills a most all (taking x ss d cx (λ ts e m ds. fill n most ts e m ds))
      took ih b (last ts) u = last_on f b u
      took ih b (unit ts e m ds) u = ih (ss ++ ts) e m ds (omega (arith, unit_less u)) (unit_on f b u)

      go : ((ss : List Step) (d : StepDue) (cx : Context) (cs : List State) → length cs < n → Filling a all ss d cx cs → Fills a most all (fill n most ss d cx cs)) → (t : Bool) → is_full most ss ≡ t →
          Fills a most all (cond t (full ss d cx cs) (taking (next_unit d cx cs) ss d cx (λ ts e m ds. fill n most ts e m ds)))
      go ih true e = (f, e)
      go ih false e = took ih (not_full most ss e) (next_unit d cx cs) (unit_reading d cx cs f.valid)

  -- A frame that starts here.
  pub filled : (most : ℕ) → ValidContext a.context → Fills a most all (fill (suc (length all)) most [] (entered a.state) a.context all)
  filled most v = fills (suc (length all)) most [] (entered a.state) a.context all (omega arith) (filling_first v)
