-- Demand 3, whole, from its clauses (Demand, Longest, Bound). Assumes nothing.
use mathlib.Core.Path.{◌≡◌, refl, ap, ◌∙◌}
use mathlib.Core.List.{List}
use Prim.Native.Nat.{ℕ}
use Rattle.octets.specs.Bits.{Bit}
use Rattle.state.specs.declared.State.{State}
use Rattle.state.specs.declared.State.TheVariants.{Solid as solid, Mixed as mixed}
use Rattle.diagram.specs.declared.End.{End}
use Rattle.diagram.specs.declared.Lengths.{Lengths}
use Rattle.diagram.specs.declared.Context.{Context}
use Rattle.diagram.specs.declared.Start.{Start}
use Rattle.diagram.specs.Diagram.{ValidContext, Step, Place, enter, Reading, done, then, counted, last_entered, standing, reading_end}
use Rattle.diagram.specs.Decoder.{refused, decode}
use Rattle.diagram.specs.Demand3.{Demand3, Has, DecoderReads}
use Rattle.diagram.proofs.Demand.{exactly_one, exactly_two, empty_only, ends_in_last, counts, refuses, answers}
use Rattle.diagram.proofs.Longest.{longest_beginning}
use Rattle.diagram.proofs.Bound.{stays, most}

standing_entered : (a : State) → standing (enter a) ≡ a
standing_entered (solid s) = refl
standing_entered (mixed m) = refl

valid_after : {p q : Place} {c d : Context} {ss : List Step} {bs : List Bit} → Reading p c ss bs q d → ValidContext c → ValidContext d
valid_after done v = v
valid_after (then a r) v = valid_after r (stays a v)

-- Every reader that refuses exactly where the decoder does, at its bit, and otherwise answers what the decoder has, meets demand 3.
pub demand_3 : (a : Start) (bs : List Bit) → ValidContext a.context → (refusedBy11 : ℕ → Type 0) (answered : List State → End → Lengths → Type 0) →
    ((k : ℕ) → refusedBy11 k → decode a bs ≡ refused k) → ((k : ℕ) → decode a bs ≡ refused k → refusedBy11 k) →
    ((cs : List State) (e : End) (l : Lengths) → Has (decode a bs) cs e l → answered cs e l) → Demand3 a bs refusedBy11 answered
demand_3 a bs v refusedBy11 answered f g h = record {
  same = λ {ss} {ts} {q} {r} {c} {d} o x y. exactly_one a bs v o x y;
  two = λ {ss} {q} {c} o x. exactly_two a bs v o x;
  empty = λ e. rw e done;
  empty_only = λ e {ss} {q} {c} x. empty_only a v (rw e at x);
  ends = λ {ss} {q} {c} x. ends_in_last x ∙ ap (λ (s : State). last_entered s ss) (standing_entered a.state);
  within = λ {ss} {q} {c} x. valid_after x v;
  counts = λ {ss} {q} {c} x. counts x v.column;
  few = λ n {ss} {q} {c} x. most a bs v n x;
  refuses = (λ r. (refuses a bs v).0 (r.0, f r.0 r.1), λ n. let r = (refuses a bs v).1 n in (r.0, g r.0 r.1));
  stops = λ {k} r. longest_beginning a bs v (f k r);
  answers = λ {ss} {q} {c} x. h (counted ss) (reading_end q ss) c.lengths (answers a bs v x);
}

pub decoder_reads : DecoderReads
decoder_reads a bs v = demand_3 a bs v (λ k. decode a bs ≡ refused k) (Has (decode a bs)) (λ k e. e) (λ k e. e) (λ cs e l h. h)
