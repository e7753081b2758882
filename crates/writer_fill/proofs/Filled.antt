-- A frame filled unit by unit: what the definition takes from here on is what it takes from the start on. Assumes nothing.
use mathlib.Core.Bool.{Bool, true, false, ◌||◌, false≢true, true≢false}
use mathlib.Core.Path.{◌≡◌, refl, sym, ap, ◌∙◌}
use mathlib.Core.List.{List, [], ◌++◌}
use Prim.Native.Nat.{ℕ, suc, ◌+◌, ◌-◌, ◌*◌, ◌^◌, ◌<◌, ◌≤◌}
use native.Mathlib.Decide.{dec_lt}
use native.Mathlib.Nat.{add-zero, lt_of_lt_of_le}
use native.Mathlib.Omega.{arith}
use lib.Dec.{ltb}
use lib.Pow.{pow_mono}
use lib.ListN.{length, drop, replicate, length-drop}
use borrow.Author.Tests.{ltb-true, ltb-false, le-ltb}
use Rattle.octets.specs.Bits.{field_bits, packed, put_bits, Free}
use Rattle.octets.proofs.Fields.{length_field}
use Rattle.octets.proofs.Packed.{free_packed, append_packed, packed_none}
use Rattle.state.specs.declared.State.{State}
use Rattle.diagram.specs.declared.Context.{Context}
use Rattle.diagram.specs.Diagram.{ValidLengths, Step, columns}
use Rattle.units.specs.declared.StepDue.{StepDue}
use Rattle.units.specs.declared.Unit.{Unit}
use Rattle.units.specs.declared.Continuation.{Continuation}
use Rattle.units.specs.Units.{bits_of_steps, context_at, unit, last, next_unit}
use Rattle.units.specs.Found.{IsNextUnit}
use Rattle.units.proofs.Units.{encoded_of}
use Rattle.units.proofs.Steps.{codes_append, length_codes, length_columns}
use Rattle.writer_fill.specs.declared.FrameStart.{FrameStart}
use Rattle.writer_fill.specs.declared.FrameProgress.{FrameProgress}
use Rattle.writer_fill.specs.Frames.{full, finished, is_full, fill}
use Rattle.writer_fill.specs.declared.FilledFrame.TheVariants.{Full, Finished}
use Rattle.writer_fill.specs.Filling.{unfilled, after_unit, is_full_by, fill_from, Fills}
use Rattle.std.specs.Prelude.{Some, None}

-- ---- one more unit

-- whether the frame is full, by its counts
full_by : (most b n : ℕ) (ss : List Step) → length (bits_of_steps ss) ≡ b → length (columns ss) ≡ n → is_full most ss ≡ (ltb 500 b || ltb most n)
unfolding is_full
full_by most b n ss e f = rw (e, f) refl

fill_on : (left most : ℕ) (ss ts : List Step) (d e : StepDue) (c m : Context) (cs ds : List State) → is_full most ss ≡ false → next_unit d c cs ≡ unit ts e m ds →
    fill (suc left) most ss d c cs ≡ fill left most (ss ++ ts) e m ds
unfolding fill
fill_on left most ss ts d e c m cs ds h t = rw (h, t) refl

fill_last : (left most : ℕ) (ss ts : List Step) (d : StepDue) (c : Context) (cs : List State) → is_full most ss ≡ false → next_unit d c cs ≡ last ts → fill (suc left) most ss d c cs ≡ finished (ss ++ ts) d c.lengths
unfolding fill
fill_last left most ss ts d c cs h t = rw (h, t) refl

fill_full : (left most : ℕ) (ss : List Step) (d : StepDue) (c : Context) (cs : List State) → is_full most ss ≡ true → fill (suc left) most ss d c cs ≡ full ss d c cs
unfolding fill
fill_full left most ss d c cs h = rw h refl

-- ---- the loop

pub record Filling (most : ℕ) (h : FrameStart) (cs : List State) (p : FrameProgress) (os : List ℕ) : Type 0 where
  pub steps : List Step
  pub left : ℕ
  pub same : fill_from most h cs ≡ fill (suc left) most steps p.due (context_at (h.before + p.columns.0) p.lengths) (drop (h.before + p.columns.0) cs)
  pub enough : length cs ≤ h.before + p.columns.0 + left
  pub bits : length (bits_of_steps steps) ≡ p.bits.0
  pub columns : length (Rattle.diagram.specs.Diagram.columns steps) ≡ p.columns.0
  pub held : os ≡ packed 64 (bits_of_steps steps)
  pub few : p.bits.0 ≤ 508
  pub none : p.bits.0 ≡ 0 → steps ≡ []
  pub within : h.before + p.columns.0 ≤ length cs
  pub dense : p.bits.0 ≤ 8 * p.columns.0
  pub valid : ValidLengths p.lengths

pub filling_start : {os : List ℕ} (most : ℕ) (h : FrameStart) (cs : List State) → ValidLengths h.lengths → h.before ≤ length cs → os ≡ replicate 64 0 → Filling most h cs (unfilled h) os
unfolding bits_of_steps columns
filling_start most h cs v w e = record {
  steps = [];
  left = length (drop h.before cs);
  same = rw (add-zero h.before) refl;
  enough = omega (arith, length-drop h.before cs);
  bits = refl;
  columns = refl;
  held = e ∙ sym (packed_none 64);
  few = omega arith;
  none = λ q. refl;
  within = omega arith;
  dense = omega arith;
  valid = v;
}

-- what holds while the frame takes more
pub record Going (most : ℕ) (p : FrameProgress) : Type 0 where
  pub bits : p.bits.0 ≤ 500
  pub columns : p.columns.0 ≤ most

neither : (a b : Bool) → (a || b) ≡ false → (a ≡ false) × (b ≡ false)
neither true b e = absurd (true≢false e)
neither false b e = (refl, e)

pub going : (most : ℕ) (p : FrameProgress) → is_full_by most p ≡ false → Going most p
going most p e =
    let n : _ = neither (ltb 500 p.bits.0) (ltb most p.columns.0) e in
    record { bits = ltb-false 500 p.bits.0 n.0; columns = ltb-false most p.columns.0 n.1 }

-- the columns that are left
abbrev pub left_of : ℕ → FrameStart → FrameProgress → ℕ
left_of n h p = n - (h.before + p.columns.0)

module _ {most : ℕ} {h : FrameStart} {cs : List State} {p : FrameProgress} {os : List ℕ} (f : Filling most h cs p os) where
  module _ {u : Unit} (t : IsNextUnit cs p.due (encoded_of (h.before + p.columns.0) p.lengths) u) where
    -- fewer columns are left where the page goes on
    pub filling_less : {c : Continuation} (n : ℕ) → length cs ≡ n → u.continuation ≡ Some c → left_of n h (after_unit p u c) < left_of n h p
    filling_less {c} n e q = let m : _ = rw q at t.more in omega (arith, t.within, m.0)

    -- a unit's bits fit behind those held
    pub filling_fits : (u.value < 256) × (p.bits.0 + 8 < 2 ^ 64) × Free os p.bits.0
    filling_fits = (lt_of_lt_of_le t.small (pow_mono {i = u.bits.0} {j = 8} t.few), omega (arith, f.few), rw f.held (free_packed 64 p.bits.0 (bits_of_steps f.steps) f.bits))

    module _ {os' : List ℕ} (g : Going most p) (e : os' ≡ put_bits os p.bits.0 (field_bits 8 u.value)) where
      not_full : is_full most f.steps ≡ false
      not_full = full_by most p.bits.0 p.columns.0 f.steps f.bits f.columns ∙ rw (le-ltb 500 p.bits.0 g.bits, le-ltb most p.columns.0 g.columns) refl

      bits_more : length (bits_of_steps (f.steps ++ t.steps)) ≡ p.bits.0 + u.bits.0
      bits_more = length_codes f.steps t.steps ∙ omega (arith, f.bits, ap length t.bits, length_field u.bits.0 u.value)

      columns_more : length (columns (f.steps ++ t.steps)) ≡ p.columns.0 + u.columns.0
      columns_more = length_columns f.steps t.steps ∙ omega (arith, f.columns, t.columns)

      held_more : os' ≡ packed 64 (bits_of_steps (f.steps ++ t.steps))
      held_more = e ∙ rw f.held (append_packed 64 p.bits.0 u.bits.0 u.value (bits_of_steps f.steps) f.bits (omega (arith, g.bits)) t.few t.small ∙ ap (packed 64) (rw (codes_append f.steps t.steps, t.bits) refl))

      none_more : p.bits.0 + u.bits.0 ≡ 0 → f.steps ++ t.steps ≡ []
      none_more q = rw (f.none (omega arith), t.none (omega arith)) refl

      pub filling_more : {c : Continuation} → u.continuation ≡ Some c → Filling most h cs (after_unit p u c) os'
      filling_more {c} q =
          let m : _ = rw q at t.more in
          let a : h.before + p.columns.0 + u.columns.0 ≡ h.before + (p.columns.0 + u.columns.0) = omega arith in
          let b : f.left ≡ suc (f.left - 1) = omega (arith, f.enough, t.within, m.0) in
          record {
            steps = f.steps ++ t.steps;
            left = f.left - 1;
            same =
                f.same
                ∙ fill_on f.left most f.steps t.steps p.due c.due (context_at (h.before + p.columns.0) p.lengths) (context_at (h.before + p.columns.0 + u.columns.0) c.lengths) (drop (h.before + p.columns.0) cs) (drop (h.before + p.columns.0 + u.columns.0) cs) not_full (rw q at t.is)
                ∙ rw (a, ← b) refl;
            enough = omega (arith, f.enough, m.0);
            bits = bits_more;
            columns = columns_more;
            held = held_more;
            few = omega (arith, t.few, g.bits);
            none = none_more;
            within = omega (arith, t.within);
            dense = omega (arith, f.dense, t.few, m.0);
            valid = m.1;
          }

      -- the page is finished with this unit: what was due and the lengths stay
      pub filling_last : u.continuation ≡ None → Fills most h cs (Finished (after_unit p u (record { due = p.due; lengths = p.lengths }))) os'
      filling_last q = record {
        steps = f.steps ++ t.steps;
        is = f.same ∙ fill_last f.left most f.steps t.steps p.due (context_at (h.before + p.columns.0) p.lengths) (drop (h.before + p.columns.0) cs) not_full (rw q at t.is);
        bits = bits_more;
        columns = columns_more;
        held = held_more;
        few = omega (arith, t.few, g.bits);
        none = none_more;
        within = omega (arith, t.within);
        some = tt;
        valid = f.valid;
      }

  -- a frame that is full has bits and columns
  some : is_full_by most p ≡ true → (0 < p.bits.0) × (0 < p.columns.0)
  some e = go (ltb 500 p.bits.0) (ltb most p.columns.0) refl refl e
    where
      none : p.bits.0 ≡ 0 → p.columns.0 ≡ 0
      none q = sym f.columns ∙ rw (f.none q) (unfold columns in refl)

      go : (a b : Bool) → ltb 500 p.bits.0 ≡ a → ltb most p.columns.0 ≡ b → (a || b) ≡ true → (0 < p.bits.0) × (0 < p.columns.0)
      go true b x y e = let l = ltb-true 500 p.bits.0 x in (omega arith, omega (arith, f.dense))
      go false true x y e = let l = ltb-true most p.columns.0 y in (held l (dec_lt 0 p.bits.0), omega arith)
        where
          held : most < p.columns.0 → Dec (0 < p.bits.0) → 0 < p.bits.0
          held l (yes k) = k
          held l (no k) = absurd (omega (arith, none (omega arith)))
      go false false x y e = absurd (false≢true e)

  pub filling_full : is_full_by most p ≡ true → Fills most h cs (Full p) os
  filling_full e = record {
    steps = f.steps;
    is = f.same ∙ fill_full f.left most f.steps p.due (context_at (h.before + p.columns.0) p.lengths) (drop (h.before + p.columns.0) cs) (full_by most p.bits.0 p.columns.0 f.steps f.bits f.columns ∙ e);
    bits = f.bits;
    columns = f.columns;
    held = f.held;
    few = f.few;
    none = f.none;
    within = f.within;
    some = some e;
    valid = f.valid;
  }
