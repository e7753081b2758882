-- What is found at a place, and the step from there. Assumes nothing.
use mathlib.Core.Bool.{Bool, true, false, cond}
use mathlib.Core.Path.{◌≡◌, refl, ap}
use mathlib.Core.List.{List}
use Prim.Native.Nat.{ℕ, ◌+◌, ◌≤◌}
use lib.ListN.{length}
use Rattle.basics.proofs.Apart.{differ}
use Rattle.refusal.specs.declared.Reason.TheVariants.{RequestNotAllowed}
use Rattle.register.specs.declared.Check.{Check}
use Rattle.register.specs.Setting.{allowed_check}
use Rattle.frame.specs.declared.Record.{Record as FrameRecord}
use Rattle.records.specs.declared.Kind.TheVariants.{Frame, End as EndDue}
use Rattle.records.specs.Records.{due_at}
use Rattle.records.proofs.Order.{due_room}
use Rattle.record_found.specs.declared.Found.{Found}
use Rattle.record_found.specs.declared.Found.TheVariants.{Record}
use Rattle.record_found.specs.Found.{refused_at, found_due, found_at, place_after, step_on, step_at}
use Rattle.std.specs.Prelude.{Result, Ok, Err}
use Rattle.records.specs.declared.Kind.{Kind}
use Rattle.refusal.specs.declared.Reason.{Reason}
use Rattle.refusal.specs.declared.Refusal.{Refusal}

module _ (c : Check) (file : List ℕ) (at : ℕ) where
  pub found_due_lem : {d : Result Kind Reason} → due_at file at ≡ d → found_due c file at d ≡ found_at c file at
  unfolding found_at
  found_due_lem e = rw e refl

  -- a record that is found is there, whole
  pub found_room : {r : FrameRecord} → found_at c file at ≡ Ok (Record r) → at + 76 ≤ length file
  unfolding found_at
  found_room {r} e = go (due_at file at) refl e
    where
      go : (d : Result Kind Reason) → due_at file at ≡ d → found_due c file at d ≡ Ok (Record r) → at + 76 ≤ length file
      go (Err reason) d e = differ cc
      go (Ok (Frame kind)) d e = due_room file at (Frame kind) d
      go (Ok EndDue) d e = differ cc

  pub step_allowed : {f : Result Found Refusal} → allowed_check c ≡ true → f ≡ found_at c file at → step_on f at ≡ step_at c file at
  unfolding step_at
  step_allowed a e = rw (a, e) refl

  pub step_not_allowed : allowed_check c ≡ false → step_on (refused_at RequestNotAllowed 0) at ≡ step_at c file at
  unfolding step_at
  step_not_allowed a = rw a refl

  -- a step that finds a record finds it whole
  pub step_room : {r : FrameRecord} → (step_at c file at).found ≡ Ok (Record r) → at + 76 ≤ length file
  unfolding step_at
  step_room {r} e = go (allowed_check c) e
    where
      go : (a : Bool) → cond a (found_at c file at) (refused_at RequestNotAllowed 0) ≡ Ok (Record r) → at + 76 ≤ length file
      go true e = found_room e
      go false e = differ cc

  pub step_after : {f : Result Found Refusal} → (step_at c file at).found ≡ f → (step_at c file at).next ≡ place_after f at
  unfolding step_at
  step_after e = ap (λ (f : Result Found Refusal). place_after f at) e
