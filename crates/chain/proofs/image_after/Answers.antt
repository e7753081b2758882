-- `chain::image_after` meets its contract: the header is judged before the data part is read. Assumes nothing.
use mathlib.Core.Path.{◌≡◌, refl, sym, subst, ◌∙◌}
use Prim.Native.Nat.{◌≤◌}
use native.Mathlib.Omega.{arith}
use Rattle.octets.specs.Bits.{bits_from}
use Rattle.diagram.specs.declared.Start.{Start}
use Rattle.diagram.specs.Decoder.{decode}
use Rattle.part.proofs.Called.{StepsHeld, none, steps_held}
use Rattle.chain.specs.Chain.{frame_judged, start_of}
use Rattle.refusal.proofs.Passed.{passed_on}
use Rattle.chain.proofs.Linked.{fine_header, fine_start, unfit_frame, unread_frame, few_columns, few_bits, read_frame}
use Rattle.chain.proofs.image_after.Goals.{In-Ok, In_ok-judge}
use Rattle.chain.proofs.image_after.Goals as goal
use Rattle.refusal.specs.Reply.{valid}

fine : (c : In_ok-judge) →
    let a : _ = c.args in frame_judged a.im a.h a.s.now ≡ valid
fine c = sym c.judge.ensures ∙ c.in_ok-judge.was

-- what the data part says
read : (c : In-Ok) →
    let a : _ = c.args in StepsHeld a.h.count (decode (start_of a.im a.h) (bits_from a.s.now 61 a.h.count)) c.in-Ok.r c.steps.new.entries
read c =
    let a : _ = c.args in
    subst (λ (x : Start). StepsHeld a.h.count (decode x (bits_from a.s.now 61 a.h.count)) c.in-Ok.r c.steps.new.entries) c.start_of.ensures
    (steps_held _ _ _ _ _ _ _ c.steps.ensures c.in-Ok.is)

few : (c : In-Ok) → (c.in-Ok.r.reading.columns.0 ≤ 9271) × (c.in-Ok.r.reading.bits.0 ≤ 512)
few c =
    let v : frame_judged c.args.im c.args.h c.args.s.now ≡ valid = sym c.judge.ensures ∙ c.in_ok-judge.was in
    (few_columns _ _ _ _ _ (read c) v, rw (few_bits c.args.im c.args.h _ _ _ (read c)) (fine_header _ _ _ v).0)

pub steps-requires : goal.steps-requires
steps-requires c = let v : _ = fine (goal.at.steps-requires c).In_ok-judge in let g : _ = fine_header _ _ _ v in
    record { place = omega arith; bits = g.0; fits = omega (arith, g.0); taken = omega arith; fewer = omega arith; laid = omega arith; valid = rw c.start_of.ensures (fine_start _ _ _ v) }

pub overflow_add-result : goal.overflow_add-result
overflow_add-result c = omega (arith, c.requires, (few (goal.at.overflow_add-result c).In-Ok).1)

pub overflow_add-open_in : goal.overflow_add-open_in
overflow_add-open_in c = omega (arith, c.requires, (few (goal.at.overflow_add-open_in c).In-Ok).0)

pub advance-requires : goal.advance-requires
advance-requires c = omega (arith, c.requires, (few (goal.at.advance-requires c).In-Ok).0)

pub returns-in_err-judge : goal.returns-in_err-judge
returns-in_err-judge c = rw (passed_on _ c.from_residual.ensures.1) (unfit_frame _ _ _ _ (sym c.judge.ensures ∙ c.in_err-judge.was) refl)

pub shape_of-entries-in-Err : goal.shape_of-entries-in-Err
shape_of-entries-in-Err c = c.steps.auto.entries

pub returns-in-Err : goal.returns-in-Err
returns-in-Err c = unread_frame _ _ _ _ (fine (goal.at.returns-in-Err c).In_ok-judge) c.start_of.ensures (none _ _ _ _ _ _ _ c.steps.ensures c.in-Err.is) c.no_reading.ensures

pub shape_of-entries-in-Ok : goal.shape_of-entries-in-Ok
shape_of-entries-in-Ok c = c.steps.auto.entries

pub returns-in-Ok : goal.returns-in-Ok
returns-in-Ok c = rw c.advance.ensures (read_frame _ _ _ _ _ (read (goal.at.returns-in-Ok c).In-Ok) _ (fine (goal.at.returns-in-Ok c).In_ok-judge) c.open_in.ensures.0)
