-- A reading has at most 4 bits for each column that it lays, and a constant more: the amortised cost of each step, with a potential on the field lengths. A word that lays
-- few columns has the length fall; an all-ones word lays columns enough for the longer field. Assumes nothing.
use mathlib.Core.Path.{◌≡◌, refl}
use mathlib.Core.List.{List}
use Prim.Native.Nat.{ℕ, ◌+◌, ◌*◌, ◌-◌, ◌^◌, ◌≤◌}
use native.Mathlib.Omega.{arith}
use lib.ListN.{length, length-append}
use borrow.Author.Tests.{eqb-true}
use Rattle.octets.specs.Bits.{Bit, value}
use Rattle.state.specs.declared.Solid.{Solid}
use Rattle.state.specs.declared.Solid.TheVariants.{WW, BB}
use Rattle.state.specs.declared.State.{State}
use Rattle.state.specs.declared.State.TheVariants.{Solid as solid, Mixed as mixed}
use Rattle.position.specs.Position.{x_after}
use Rattle.diagram.specs.declared.Lengths.{Lengths}
use Rattle.diagram.specs.declared.Context.{Context}
use Rattle.field_length.specs.declared.Nth.{Nth}
use Rattle.field_length.specs.declared.Nth.TheVariants.{First, Later}
use Rattle.field_length.specs.FieldLength.{length_after_ones, length_after_closing}
use Rattle.diagram.specs.Diagram.{length_of, with_length, longer, closed, full, Place, at, run, out, enter, Step, lays, columns, to_solid, to_mixed, Allowed, moves, leaves, goes_on, closes, Reading, done, then, ValidContext}
use Rattle.field_length.proofs.Rule.{potential, credit_at, Pays, pays, closed_pays}
use Rattle.diagram.proofs.Contexts.{length_within}
use Rattle.diagram.proofs.Bound.{length_word, stays}
use Rattle.roundtrip.proofs.Steps.{arc_bits_lem}

-- ---- potential and credit

-- of both lengths
pub potentials : Lengths → ℕ
potentials l = potential l.black + potential l.white

-- at a place: the move after a closing word pays for 3 of its bits, and an all-ones word for 4 of the next one's
abbrev pub credit : Place → ℕ
credit (at m) = 3
credit (run k s) = credit_at k
credit (out s) = 0

length_pays : (s : Solid) (cx : Context) → ValidContext cx → Pays (length_of s cx.lengths)
length_pays s cx v = let b = length_within s cx v in pays (length_of s cx.lengths) b.0 b.1

-- ---- a step

potentials_with : (s : Solid) (n : ℕ) (l : Lengths) → potentials (with_length s n l) + potential (length_of s l) ≡ potentials l + potential n
unfolding potentials
potentials_with WW n l = omega arith
potentials_with BB n l = omega arith

pub potentials_most : (cx : Context) → ValidContext cx → potentials cx.lengths ≤ 20
unfolding potentials
potentials_most cx v = omega (arith, (length_pays WW cx v).most, (length_pays BB cx v).most)

credit_entered : (t : State) → credit (enter t) ≡ 3
credit_entered (solid s) = refl
credit_entered (mixed m) = refl

pub credit_run : (k : Nth) (s : Solid) → 3 ≤ credit (run k s)
credit_run First s = omega arith
credit_run Later s = omega arith

-- a step's bits, with potential and credit after it
step_pays : {p q : Place} {cx m : Context} {s : Step} {w : List Bit} → Allowed p cx s w q m → ValidContext cx →
    length w + (credit q + potentials m.lengths) ≤ 4 * length (lays s) + (credit p + potentials cx.lengths)
unfolding lays longer closed full
step_pays (moves {t = t} a) v = omega (arith, arc_bits_lem a, credit_entered t)
step_pays (leaves to_solid) v = omega arith
step_pays (leaves to_mixed) v = omega arith
step_pays {cx} (goes_on {k = k} {s = s} {w = w} e t) v =
    rw (length_word s w, e, eqb-true (value w) (2 ^ length_of s cx.lengths - 1) t) (omega (arith, (length_pays s cx v).ones, credit_run k s, potentials_with s (length_after_ones (length_of s cx.lengths)) cx.lengths))
step_pays {cx} (closes {k = k} {s = s} {w = w} e t) v = rw (length_word s w, e) (omega (arith, closed_pays k (value w) (x_after cx.x (value w)) (length_pays s cx v), potentials_with s (length_after_closing k (length_of s cx.lengths) (value w) (x_after cx.x (value w))) cx.lengths))

reading_pays : {p q : Place} {cx m : Context} {ss : List Step} {bs : List Bit} → Reading p cx ss bs q m → ValidContext cx →
    length bs + (credit q + potentials m.lengths) ≤ 4 * length (columns ss) + (credit p + potentials cx.lengths)
unfolding columns
reading_pays done v = omega arith
reading_pays (then {s = s} {ss = ss} {w = w} {bs = bs} a r) v =
    rw (length-append w bs, length-append (lays s) (columns ss)) (omega (arith, step_pays a v, reading_pays r (stays a v)))

-- The bits of a data part.
pub part_pays : (a : State) {q : Place} {cx m : Context} {ss : List Step} {bs : List Bit} → Reading (enter a) cx ss bs q m → ValidContext cx →
    length bs + (credit q + potentials m.lengths) ≤ 4 * length (columns ss) + (3 + potentials cx.lengths)
part_pays a r v = omega (arith, reading_pays r v, credit_entered a)
