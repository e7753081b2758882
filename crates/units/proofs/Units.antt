-- What the code found is the unit that comes next: its bits are one field of at most 8 bits, and the columns left are those behind it. Assumes
-- nothing.
use mathlib.Core.Path.{◌≡◌, refl, sym, ap, ◌∙◌}
use mathlib.Core.List.{List, [], ◌∷◌, append-nil}
use Prim.Native.Nat.{ℕ, suc, ◌+◌, ◌-◌, ◌*◌, ◌^◌, ◌<◌, ◌≤◌, min}
use native.Mathlib.Nat.{pow-suc}
use native.Mathlib.Numerals.{add-one}
use native.Mathlib.Omega.{arith}
use lib.Pow.{pow_pos}
use lib.ListN.{length, get_or, drop, replicate, length-append, length-replicate, drop_of_length-le}
use lib.Seq.{drop-cons, drop-drop}
use borrow.Author.Tests.{le-leb, lt-leb}
use Rattle.octets.specs.Bits.{field_bits, value}
use Rattle.basics.proofs.Numbers.{times_bit}
use Rattle.octets.proofs.Fields.{value_field, field_join}
use Rattle.state.specs.declared.Mixed.{Mixed}
use Rattle.state.specs.declared.Solid.{Solid}
use Rattle.state.specs.declared.Solid.TheVariants.{WW}
use Rattle.state.specs.declared.State.{State}
use Rattle.state.specs.declared.State.TheVariants.{Solid as solid, Mixed as mixed}
use Rattle.state.specs.Pels.{pels_of, state_of}
use Rattle.state.proofs.States.{state_pels}
use Rattle.position.specs.Position.{position_after, last_x}
use Rattle.position.proofs.Positions.{x_on, x_small, x_after_more}
use Rattle.diagram.specs.declared.Lengths.{Lengths}
use Rattle.diagram.specs.declared.Context.{Context}
use Rattle.field_length.specs.declared.Nth.{Nth}
use Rattle.field_length.specs.declared.Nth.TheVariants.{Later}
use Rattle.diagram.specs.Diagram.{length_of, after_columns, after_move, longer, closed, ValidLengths, ValidContext, Step, move, arc_bits, lays, columns}
use Rattle.diagram.proofs.Contexts.{length_within, valid_longer, valid_closed}
use Rattle.units.specs.declared.StepDue.{StepDue}
use Rattle.units.specs.declared.StepDue.TheVariants.{Move, Word}
use Rattle.units.specs.declared.Encoded.{Encoded}
use Rattle.units.specs.Units.{bits_of_steps, context_at, entered, ahead, ones, word_of, unit, next_unit}
use Rattle.units.specs.Found.{last_unit, unit_before, IsNextUnit}

-- what is encoded, by its parts
abbrev pub encoded_of : ℕ → Lengths → Encoded
encoded_of at l = record { columns = record { 0 = at }; lengths = l }

-- ---- the context, by the columns that are encoded

pub context_on : (at n : ℕ) (l m : Lengths) → after_columns n m (context_at at l) ≡ context_at (at + n) m
context_on at n l m = ap (λ (x : ℕ). record { lengths = m; x = x }) (sym (x_on at n))

-- behind a closing word and its move out
context_closed : (at v : ℕ) (l m : Lengths) → after_move (after_columns v m (context_at at l)) ≡ context_at (at + (v + 1)) m
context_closed at v l m = ap (λ (x : ℕ). record { lengths = m; x = x }) (x_after_more (last_x (position_after at)) v 1 ∙ sym (x_on at (v + 1)))

pub valid_context : (at : ℕ) (l : Lengths) → ValidLengths l → ValidContext (context_at at l)
valid_context at l v = record { lengths = v; column = x_small at }

in_context : (ts : List Step) (d : StepDue) (cs : List State) {a b : Context} → a ≡ b → unit ts d a cs ≡ unit ts d b cs
in_context ts d cs e = rw e refl

-- the column that is found by its pels
column_of : {c : State} {p : ℕ} (cs : List State) (at : ℕ) → at < length cs → p ≡ pels_of (get_or cs at (solid WW)) → c ≡ state_of p → drop at cs ≡ c ∷ drop (suc at) cs
column_of {c} {p} cs at h e f =
    drop-cons cs at (solid WW) h ∙ ap (λ (x : State). x ∷ drop (suc at) cs) (sym (f ∙ ap state_of e ∙ state_pels (get_or cs at (solid WW))))

-- ---- a move out of a mixed state

module _ (cs : List State) (at : ℕ) (m : Mixed) (l : Lengths) (v : ValidLengths l) where
  pub tells_nothing : at ≡ length cs → IsNextUnit cs (Move m) (encoded_of at l) (last_unit 0 0 0)
  unfolding next_unit bits_of_steps columns field_bits
  tells_nothing h = record {
    steps = [];
    is = rw (drop_of_length-le cs {i = at} (omega arith)) refl;
    bits = refl;
    columns = refl;
    few = omega arith;
    small = omega arith;
    none = λ e. refl;
    within = omega arith;
    more = tt;
  }

  pub tells_move : {c : State} {d : StepDue} {p b w : ℕ} → at < length cs → p ≡ pels_of (get_or cs at (solid WW)) → c ≡ state_of p → arc_bits (mixed m) c ≡ field_bits b w → 0 < b → b ≤ 4 → w < 2 ^ b → d ≡ entered c →
      IsNextUnit cs (Move m) (encoded_of at l) (unit_before d l b w 1)
  unfolding next_unit bits_of_steps columns lays
  tells_move {c} h e f a o k small g = record {
    steps = move (mixed m) c ∷ [];
    is = rw (column_of cs at h e f, g, ← add-one at) (in_context (move (mixed m) c ∷ []) (entered c) (drop (at + 1) cs) (context_on at 1 l l));
    bits = append-nil (arc_bits (mixed m) c) ∙ a;
    columns = refl;
    few = omega arith;
    small = small;
    none = λ q. absurd (omega arith);
    within = omega arith;
    more = (omega arith, v);
  }

-- ---- a word of a run

module _ (cs : List State) (at : ℕ) (k : Nth) (s : Solid) (l : Lengths) (valid : ValidLengths l) (n full v : ℕ) (e : n ≡ length_of s l) (f : full ≡ 2 ^ n - 1)
    (g : v ≡ min full (ahead s (drop at cs))) (h : at + v ≤ length cs) where
  within : (2 ≤ n) × (n ≤ 7)
  within = let w = length_within s (context_at at l) (valid_context at l valid) in (omega arith, omega arith)

  bound : (full + 1 ≡ 2 ^ n) × (v < 2 ^ n)
  bound = let p = pow_pos n in (omega arith, omega arith)

  long : length (columns (word_of s l v ∷ [])) ≡ v
  unfolding columns lays
  long = rw (append-nil (replicate (value (field_bits (length_of s l) v)) (solid s)), ← e, value_field n v bound.1) (length-replicate {0} {A = State} v (solid s))

  code : bits_of_steps (word_of s l v ∷ []) ≡ field_bits n v
  unfolding bits_of_steps
  code = append-nil (field_bits (length_of s l) v) ∙ ap (λ (i : ℕ). field_bits i v) (sym e)

  pub tells_ones : {m : Lengths} → v ≡ full → after_columns v m (context_at at l) ≡ longer s v (context_at at l) → 0 < full → IsNextUnit cs (Word k s) (encoded_of at l) (unit_before (Word Later s) m n v v)
  unfolding next_unit
  tells_ones {m} x y z =
      let o : ones (length_of s l) ≡ v = rw (← e) (sym f ∙ sym x) in
      record {
        steps = word_of s l v ∷ [];
        is = rw (le-leb (ones (length_of s l)) (ahead s (drop at cs)) (omega arith), o, drop-drop v at cs) (in_context (word_of s l v ∷ []) (Word Later s) (drop (at + v) cs) (sym y ∙ context_on at v l m));
        bits = code;
        columns = long;
        few = omega (arith, within.1);
        small = bound.1;
        none = λ q. absurd (omega (arith, within.0));
        within = h;
        more = (omega arith, rw (ap (λ (c : Context). c.lengths) y) (valid_longer s v (context_at at l) (valid_context at l valid)).lengths);
      }

  module _ (x : v ≡ full → ⊥) where
    there : ahead s (drop at cs) ≡ v
    there = omega arith

    short : ahead s (drop at cs) < ones (length_of s l)
    short = let z : ones (length_of s l) ≡ full = rw (← e) (sym f) in omega arith

    pub tells_last : at + v ≡ length cs → IsNextUnit cs (Word k s) (encoded_of at l) (last_unit n v v)
    unfolding next_unit
    tells_last y = record {
      steps = word_of s l v ∷ [];
      is = rw (lt-leb (ones (length_of s l)) (ahead s (drop at cs)) short, there, drop-drop v at cs, drop_of_length-le cs {i = at + v} (omega arith)) refl;
      bits = code;
      columns = long;
      few = omega (arith, within.1);
      small = bound.1;
      none = λ q. absurd (omega (arith, within.0));
      within = h;
      more = tt;
    }

    pub tells_closing : {c : State} {d : StepDue} {m : Lengths} {p : ℕ} (b : ℕ) → at + v < length cs → p ≡ pels_of (get_or cs (at + v) (solid WW)) → c ≡ state_of p → arc_bits (solid s) c ≡ field_bits 1 b → b < 2 →
        d ≡ entered c → after_columns v m (context_at at l) ≡ closed k s v (context_at at l) → IsNextUnit cs (Word k s) (encoded_of at l) (unit_before d m (n + 1) (v + b * (full + 1)) (v + 1))
    unfolding next_unit
    tells_closing {c} {d} {m} {p} b y q r a j z w = record {
      steps = word_of s l v ∷ move (solid s) c ∷ [];
      is = rw (lt-leb (ones (length_of s l)) (ahead s (drop at cs)) short, there, drop-drop v at cs, column_of cs (at + v) y q r, z)
          (let i : suc (at + v) ≡ at + (v + 1) = omega arith in rw i (in_context (word_of s l v ∷ move (solid s) c ∷ []) (entered c) (drop (at + (v + 1)) cs) (ap after_move (sym w) ∙ context_closed at v l m)));
      bits = (unfold bits_of_steps in rw (append-nil (arc_bits (solid s) c), a, ← e, bound.0) (sym (field_join n 1 v b bound.1)));
      columns = (unfold columns lays in rw (length-append (replicate (value (field_bits (length_of s l) v)) (solid s)) (c ∷ []), ← e, value_field n v bound.1, length-replicate {0} {A = State} v (solid s)) refl);
      few = omega (arith, within.1);
      small = rw (add-one n, pow-suc 2 n) (omega (arith, bound, times_bit (full + 1) b j));
      none = λ q. absurd (omega (arith, within.0));
      within = omega arith;
      more = (omega arith, rw (ap (λ (c : Context). c.lengths) w) (valid_closed k s v (context_at at l) (valid_context at l valid)).lengths);
    }
