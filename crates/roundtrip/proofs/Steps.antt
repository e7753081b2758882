-- Steps end to end: readings joined, a reading's bits, and whether the last step is a single 1 out of a solid state. Every step has a bit, and
-- such a last step enters the state of the place where the reading ends. Assumes nothing.
use mathlib.Core.Path.{◌≡◌, refl, sym, ap, ◌∙◌}
use mathlib.Core.Bool.{Bool, true, false≢true}
use mathlib.Core.List.{List, [], ◌∷◌, ◌++◌, append_assoc}
use Prim.Native.Nat.{◌*◌, ◌≤◌}
use native.Mathlib.Omega.{arith}
use lib.ListN.{length, length-append}
use Rattle.octets.specs.Bits.{Bit}
use Rattle.state.specs.declared.Mixed.{Mixed}
use Rattle.state.specs.declared.Solid.{Solid}
use Rattle.state.specs.declared.State.{State}
use Rattle.state.specs.declared.State.TheVariants.{Solid as solid, Mixed as mixed}
use Rattle.diagram.specs.declared.Context.{Context}
use Rattle.diagram.specs.Diagram.{Place, at, Step, arc_bits, lays, columns, enters_mixed, last_enters_mixed, counted, Arc, BW·BW, BW·WB, BW·WW, BW·BB, WB·WB, WB·BW, WB·WW, WB·BB, to_solid, to_mixed, Allowed, moves, leaves, goes_on, closes, Reading, done, then, ValidContext}
use Rattle.diagram.proofs.Contexts.{length_within}
use Rattle.diagram.proofs.Bound.{stays}

pub join : {p q r : Place} {cx m n : Context} {ss ts : List Step} {bs ds : List Bit} →
    Reading p cx ss bs q m → Reading q m ts ds r n → Reading p cx (ss ++ ts) (bs ++ ds) r n
join done y = y
join {ds} (then {w = w} {bs = bs} h x) y = rw (append_assoc w bs ds) (then h (join x y))

-- ---- the bits of a reading

pub arc_one : (s : Solid) (c : State) → length (arc_bits (solid s) c) ≡ 1
unfolding arc_bits
arc_one s (solid t) = refl
arc_one s (mixed m) = refl

pub arc_bits_lem : {a b : State} {w : List Bit} → Arc a b w → (1 ≤ length w) × (length w ≤ 4)
arc_bits_lem BW·BW = omega arith
arc_bits_lem BW·WB = omega arith
arc_bits_lem BW·WW = omega arith
arc_bits_lem BW·BB = omega arith
arc_bits_lem WB·WB = omega arith
arc_bits_lem WB·BW = omega arith
arc_bits_lem WB·WW = omega arith
arc_bits_lem WB·BB = omega arith
arc_bits_lem to_solid = omega arith
arc_bits_lem to_mixed = omega arith

step_bits_lem : {p q : Place} {cx m : Context} {s : Step} {w : List Bit} → Allowed p cx s w q m → ValidContext cx → (1 ≤ length w) × (length w ≤ 7)
step_bits_lem (moves a) v = omega (arith, arc_bits_lem a)
step_bits_lem (leaves a) v = omega (arith, arc_bits_lem a)
step_bits_lem {cx} (goes_on {s = s} e t) v = omega (arith, length_within s cx v)
step_bits_lem {cx} (closes {s = s} e t) v = omega (arith, length_within s cx v)

-- Every step has from 1 to 7 bits.
pub steps_bits : {p q : Place} {cx m : Context} {ss : List Step} {bs : List Bit} → Reading p cx ss bs q m → ValidContext cx → (length ss ≤ length bs) × (length bs ≤ 7 * length ss)
steps_bits done v = omega arith
steps_bits (then {w = w} {bs = bs} a r) v = rw (length-append w bs) (omega (arith, step_bits_lem a v, steps_bits r (stays a v)))

pub steps_valid : {p q : Place} {cx m : Context} {ss : List Step} {bs : List Bit} → Reading p cx ss bs q m → ValidContext cx → ValidContext m
steps_valid done v = v
steps_valid (then a r) v = steps_valid r (stays a v)

-- ---- a last single 1 out of a solid state

-- whether the last step is one; the flag, where there are no steps
abbrev pub turned : Bool → List Step → Bool
turned b [] = b
turned b (s ∷ ss) = turned (enters_mixed s) ss

pub turned_append : (b : Bool) (xs ys : List Step) → turned b (xs ++ ys) ≡ turned (turned b xs) ys
turned_append b [] ys = refl
turned_append b (x ∷ xs) ys = turned_append (enters_mixed x) xs ys

pub turned_last : (b : Bool) (s : Step) (ss : List Step) → turned b (s ∷ ss) ≡ last_enters_mixed (s ∷ ss)
turned_last b s [] = refl
turned_last b s (t ∷ ss) = turned_last b t ss

-- Its column is the one that is not counted.
pub opens_last : {p q : Place} {cx m : Context} {ss : List Step} {bs : List Bit} → Reading p cx ss bs q m → last_enters_mixed ss ≡ true →
    (k : Mixed) × (q ≡ at k) × (columns ss ≡ counted ss ++ mixed k ∷ [])
unfolding columns counted lays
opens_last done e = absurd (false≢true e)
opens_last (then (moves a) done) e = absurd (false≢true e)
opens_last (then (leaves to_solid) done) e = absurd (false≢true e)
opens_last (then (leaves (to_mixed {m = m})) done) e = (m, refl, refl)
opens_last (then (goes_on f t) done) e = absurd (false≢true e)
opens_last (then (closes f t) done) e = absurd (false≢true e)
opens_last (then {s = s} a (then {s = t} {ss = ss} b r)) e =
    let o = opens_last (then b r) e in
    (o.0, o.1, ap (λ (cs : List State). lays s ++ cs) o.2 ∙ sym (append_assoc (lays s) (counted (t ∷ ss)) (mixed o.0 ∷ [])))
