-- The two readers of steps meet their contracts, together: each is called with fewer bits left, which is the measure. A reader's loop goes
-- on from the place, the progress and the entries that it was called with: what is promised from where it stands is promised from there
-- (StepReader.Goes). So each turn is a step in front of the turns to come (goes_move, goes_word), and each return is the end of the bits
-- (goes_ends, goes_ends_with), no reading (goes_nowhere), or what the other reader promises. Assumes nothing.
use native.Mathlib.Nat.{add-zero}
use native.Mathlib.Omega.{arith}
use mathlib.Core.Path.{◌≡◌, refl, sym, ap, ◌∙◌}
use Prim.Native.Nat.{ℕ, ◌<◌}
use Rattle.state.specs.declared.Mixed.{Mixed}
use Rattle.state.specs.declared.Solid.{Solid}
use Rattle.state.specs.declared.State.TheVariants.{Solid as solid, Mixed as mixed}
use Rattle.field_length.specs.declared.Nth.TheVariants.{First, Later}
use Rattle.diagram.specs.Decoder.{stopped, opened}
use Rattle.diagram.specs.Diagram.{at, run, out}
use Rattle.diagram.specs.declared.Lengths.{Lengths}
use Rattle.part_notes.specs.declared.PartProgress.{PartProgress}
use Rattle.part_notes.specs.Notes.{onward}
use Rattle.part_steps.proofs.StepReader.{moves_are, words_are, leaves_are, stay_bits, cross_bits, leave_bits, out_bits, Goes, goes_room, goes_within, goes_move, goes_word, goes_ends, goes_ends_with, goes_nowhere}
use Rattle.part_steps.proofs.+from_mixed_from_solid.Goals.{from_mixed-After-from_solid-arg-1, from_solid-After-note-c}
use Rattle.part_steps.proofs.+from_mixed_from_solid.Goals as goal
use Rattle.std.specs.Prelude.{Ok, Err, Some}

-- ---- the mixed-state reader

pub from_mixed-returns-then-taken-count : goal.from_mixed-returns-then-taken-count
from_mixed-returns-then-taken-count t c = goes_ends c.loop-state.invariant _ c.if-taken-count.true (ap Ok c.stopped.ensures)

pub from_mixed-loop-state-preserved-in-Ok-Stay : goal.from_mixed-loop-state-preserved-in-Ok-Stay
from_mixed-loop-state-preserved-in-Ok-Stay t c =
    let h : _ = moves_are _ _ _ _ c.mixed_move.ensures (c.in-Ok-Stay.is ∙ ap Ok c.in-Ok-Stay.field-0-is) in
    (goes_move c.loop-state.invariant _ _ (mixed _) 1 (h.is _) (omega arith) h.enough (stay_bits _) refl c.note-q.ensures).0

pub from_mixed-note-q-requires-in-Ok-Cross : goal.from_mixed-note-q-requires-in-Ok-Cross
from_mixed-note-q-requires-in-Ok-Cross t c = goes_room c.loop-state.invariant 3 1 (moves_are _ _ _ _ c.mixed_move.ensures (c.in-Ok-Cross.is ∙ ap Ok c.in-Ok-Cross.field-0-is)).enough (omega arith) (omega arith)

pub from_mixed-loop-state-preserved : goal.from_mixed-loop-state-preserved
from_mixed-loop-state-preserved t c =
    let h : _ = moves_are _ _ _ _ c.mixed_move.ensures (c.in-Ok-Cross.is ∙ ap Ok c.in-Ok-Cross.field-0-is) in
    (goes_move c.loop-state.invariant _ _ (mixed _) 3 (h.is _) (omega arith) h.enough (cross_bits _) (ap (λ (y : Mixed). mixed y) c.other_mixed-state.ensures) c.note-q-in-Ok-Cross.ensures).0

pub from_mixed-note-left-requires : goal.from_mixed-note-left-requires
from_mixed-note-left-requires t c = goes_room c.loop-state.invariant 4 1 (moves_are _ _ _ _ c.mixed_move.ensures (c.in-Ok-Leave.is ∙ ap Ok c.in-Ok-Leave.field-0-is)).enough (omega arith) (omega arith)

-- behind the move into a solid state
leaves : (t : ℕ) (c : from_mixed-After-from_solid-arg-1 t) →
    let a : _ = c.args in
    Goes a.octets.now a.from a.count (at a.m) a.p a.entries.now (run First c.in-Ok-Leave.s) c.note-left.result c.note-left.new.entries × (c.loop-state.q.bits.0 < c.note-left.result.bits.0)
leaves t c =
    let h : _ = moves_are _ _ _ _ c.mixed_move.ensures (c.in-Ok-Leave.is ∙ ap Ok c.in-Ok-Leave.field-0-is) in
    goes_move c.loop-state.invariant _ _ (solid _) 4 (h.is _) (omega arith) h.enough (leave_bits _ _) refl c.note-left.ensures

pub from_mixed-from_solid-requires : goal.from_mixed-from_solid-requires
from_mixed-from_solid-requires t c =
    let g : _ = leaves t (goal.at.from_mixed-from_solid-requires t c).After-from_solid-arg-1 in
    (let e : _ = c.decreases in omega arith, g.0.ready)

pub from_mixed-returns-in-Ok-Leave : goal.from_mixed-returns-in-Ok-Leave
from_mixed-returns-in-Ok-Leave t c = (leaves t (goal.at.from_mixed-returns-in-Ok-Leave t c).After-from_solid-arg-1).0.whole _ _ c.from_solid.ensures

pub from_mixed-overflow_add-result : goal.from_mixed-overflow_add-result
from_mixed-overflow_add-result t c =
    let z : _ = goes_within c.loop-state.invariant _ (moves_are _ _ _ _ c.mixed_move.ensures c.in-Err.is).enough in
    omega arith

pub from_mixed-returns-in-Err : goal.from_mixed-returns-in-Err
from_mixed-returns-in-Err t c = goes_nowhere c.loop-state.invariant _ _ ((moves_are _ _ _ _ c.mixed_move.ensures c.in-Err.is).is _) refl

-- ---- the solid-state reader

-- behind a closing word the lengths are those that it leaves
same_lengths : (q : PartProgress) {l : Lengths} → q.context.lengths ≡ l → onward q (record { 0 = 1 }) (record { 0 = 1 }) l ≡ onward q (record { 0 = 1 }) (record { 0 = 1 }) q.context.lengths
same_lengths q e = ap (λ (x : Lengths). onward q (record { 0 = 1 }) (record { 0 = 1 }) x) (sym e)

pub from_solid-returns-then-taken-count : goal.from_solid-returns-then-taken-count
from_solid-returns-then-taken-count t c = goes_ends c.loop-word.invariant _ c.if-taken-count.true (ap Ok c.stopped.ensures)

pub from_solid-note-q-requires : goal.from_solid-note-q-requires
from_solid-note-q-requires t c =
    let f : _ = (words_are _ _ _ _ _ _ c.run_word.ensures (c.in-Some-Ones.is ∙ ap Some c.in-Some-Ones.field-0-is)).front in
    goes_room c.loop-word.invariant _ _ f.enough (let z = f.some in omega arith) f.below

pub from_solid-loop-word-preserved-in-Some-Ones : goal.from_solid-loop-word-preserved-in-Some-Ones
from_solid-loop-word-preserved-in-Some-Ones t c =
    let h : _ = words_are _ _ _ _ _ _ c.run_word.ensures (c.in-Some-Ones.is ∙ ap Some c.in-Some-Ones.field-0-is) in
    (goes_word c.loop-word.invariant _ (run Later _) _ h.is h.front c.note-q.ensures).0

pub from_solid-note-c-requires : goal.from_solid-note-c-requires
from_solid-note-c-requires t c =
    let f : _ = (words_are _ _ _ _ _ _ c.run_word.ensures (c.in-Some-Closing.is ∙ ap Some c.in-Some-Closing.field-0-is)).front in
    goes_room c.loop-word.invariant _ _ f.enough (let z = f.some in omega arith) f.below

-- behind a closing word
closes : (t : ℕ) (c : from_solid-After-note-c t) →
    let a : _ = c.args in
    Goes a.octets.now a.from a.count (run First a.s) a.p a.entries.now (out c.loop-word.state) c.note-c.result c.note-c.new.entries × (c.loop-word.q.bits.0 < c.note-c.result.bits.0)
closes t c =
    let h : _ = words_are _ _ _ _ _ _ c.run_word.ensures (c.in-Some-Closing.is ∙ ap Some c.in-Some-Closing.field-0-is) in
    goes_word c.loop-word.invariant _ (out _) _ h.is h.front c.note-c.ensures

pub from_solid-overflow_sub-count-in-Some-Closing : goal.from_solid-overflow_sub-count-in-Some-Closing
from_solid-overflow_sub-count-in-Some-Closing t c =
    let r : _ = (closes t (goal.at.from_solid-overflow_sub-count-in-Some-Closing t c).After-note-c).0.ready in
    omega arith

pub from_solid-note-q-requires-in-Some-ToSolid : goal.from_solid-note-q-requires-in-Some-ToSolid
from_solid-note-q-requires-in-Some-ToSolid t c =
    goes_room (closes t (goal.at.from_solid-note-q-requires-in-Some-ToSolid t c).After-note-c).0 1 1 (leaves_are _ _ _ c.solid_move.ensures (c.in-Some-ToSolid.is ∙ ap Some c.in-Some-ToSolid.field-0-is)).enough (omega arith) (omega arith)

pub from_solid-loop-word-preserved : goal.from_solid-loop-word-preserved
from_solid-loop-word-preserved t c =
    let h : _ = leaves_are _ _ _ c.solid_move.ensures (c.in-Some-ToSolid.is ∙ ap Some c.in-Some-ToSolid.field-0-is) in
    let f : _ = closes t (goal.at.from_solid-loop-word-preserved t c).After-note-c in
    (goes_move f.0 _ _ (solid _) 1 (h.is _ _) (omega arith) h.enough (out_bits _ _) (ap (λ (y : Solid). solid y) c.other_solid-state.ensures)
    (c.note-q-in-Some-ToSolid.ensures.0 ∙ same_lengths _ (ap (λ (x : PartProgress). x.context.lengths) c.note-c.ensures.0), c.note-q-in-Some-ToSolid.ensures.1)).0

pub from_solid-note-left-requires : goal.from_solid-note-left-requires
from_solid-note-left-requires t c =
    goes_room (closes t (goal.at.from_solid-note-left-requires t c).After-note-c).0 1 1 (leaves_are _ _ _ c.solid_move.ensures (c.in-Some-ToMixed.is ∙ ap Some c.in-Some-ToMixed.field-0-is)).enough (omega arith) (omega arith)

pub from_solid-from_mixed-requires : goal.from_solid-from_mixed-requires
from_solid-from_mixed-requires t c =
    let h : _ = leaves_are _ _ _ c.solid_move.ensures (c.in-Some-ToMixed.is ∙ ap Some c.in-Some-ToMixed.field-0-is) in
    let f : _ = closes t (goal.at.from_solid-from_mixed-requires t c).After-note-c in
    let g : _ = goes_move f.0 _ _ (mixed _) 1 (h.is _ _) (omega arith) h.enough (out_bits _ _) refl
    (c.note-left.ensures.0 ∙ same_lengths _ (ap (λ (x : PartProgress). x.context.lengths) c.note-c.ensures.0), c.note-left.ensures.1) in
    (let i : _ = c.loop-word.invariant in let e : _ = c.decreases in omega arith, g.0.ready)

pub from_solid-returns-in-Some-ToMixed : goal.from_solid-returns-in-Some-ToMixed
from_solid-returns-in-Some-ToMixed t c =
    let h : _ = leaves_are _ _ _ c.solid_move.ensures (c.in-Some-ToMixed.is ∙ ap Some c.in-Some-ToMixed.field-0-is) in
    let f : _ = closes t (goal.at.from_solid-returns-in-Some-ToMixed t c).After-note-c in
    let g : _ = goes_move f.0 _ _ (mixed _) 1 (h.is _ _) (omega arith) h.enough (out_bits _ _) refl
    (c.note-left.ensures.0 ∙ same_lengths _ (ap (λ (x : PartProgress). x.context.lengths) c.note-c.ensures.0), c.note-left.ensures.1) in
    g.0.whole _ _ c.from_mixed.ensures

pub from_solid-returns-in-Some-Open : goal.from_solid-returns-in-Some-Open
from_solid-returns-in-Some-Open t c =
    goes_ends_with (closes t (goal.at.from_solid-returns-in-Some-Open t c).After-note-c).0 (opened _) _ _ ((leaves_are _ _ _ c.solid_move.ensures (c.in-Some-Open.is ∙ ap Some c.in-Some-Open.field-0-is)).is _ _) refl (ap Ok c.stopped-in-Some-Open.ensures)

pub from_solid-returns-in-None-solid_move : goal.from_solid-returns-in-None-solid_move
from_solid-returns-in-None-solid_move t c =
    goes_ends_with (closes t (goal.at.from_solid-returns-in-None-solid_move t c).After-note-c).0 (stopped _) _ _ ((leaves_are _ _ _ c.solid_move.ensures c.in-None-solid_move.is).is _ _) refl (ap Ok c.stopped-in-None-solid_move.ensures)

pub from_solid-returns-in-None : goal.from_solid-returns-in-None
from_solid-returns-in-None t c =
    goes_nowhere c.loop-word.invariant 0 _ (words_are _ _ _ _ _ _ c.run_word.ensures c.in-None.is).is (ap (λ (n : ℕ). Err (record { 0 = n })) (sym (add-zero _)))
