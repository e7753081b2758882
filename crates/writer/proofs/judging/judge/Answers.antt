-- `writer::judging::judge` meets its contract: in the order of the list. Assumes nothing.
use mathlib.Core.Path.{◌≡◌, sym, ap, subst, ◌∙◌}
use Prim.Native.Nat.{◌≤◌}
use Rattle.refusal.specs.declared.Reason.{Reason}
use Rattle.refusal.proofs.Passed.{passed_on}
use Rattle.writer.specs.declared.judging.Writing.{Writing}
use Rattle.writer.specs.Call.{requested, with_columns}
use Rattle.writer.proofs.Judges.{not_requested, is_requested, not_asked, not_taken, not_settings, not_told, all_fine}
use Rattle.writer.proofs.judging.judge.Goals.{In-Some}
use Rattle.writer.proofs.judging.judge.Goals as goal
use Rattle.std.specs.Prelude.{Result, Err, Some, IfOk}

-- an allowed request, and its most columns
asked : (c : In-Some) →
    requested c.args.c c.args.rate ≡ Some c.in-Some.most
asked c = sym c.requested.ensures.0 ∙ c.in-Some.is

pub returns-in_default : goal.returns-in_default
returns-in_default c = (ap (with_columns _) (not_asked _ _ _ _ (not_requested _ _ (sym c.requested.ensures.0 ∙ c.in_default.is))), tt)

pub last_not_encodable-requires : goal.last_not_encodable-requires
last_not_encodable-requires c = sym c.judge.ensures ∙ c.in_ok-judge.was

pub returns-then-last_not_encodable : goal.returns-then-last_not_encodable
returns-then-last_not_encodable c = (ap (with_columns _) (not_told _ _ _ _ (is_requested _ _ (asked (goal.at.returns-then-last_not_encodable c).In-Some)).0 (sym c.judge.ensures ∙ c.in_ok-judge.was) (sym c.settings_of.ensures ∙ c.in-Some-settings_of.is) (sym c.last_not_encodable.ensures ∙ c.if-last_not_encodable.true)), tt)

pub returns-in_err-judge : goal.returns-in_err-judge
returns-in_err-judge c =
    let e : c.from_residual.result ≡ Err c.in_err-judge.field-0.0 = passed_on _ c.from_residual.ensures.1 in
    (e ∙ ap (with_columns _) (not_taken _ _ _ _ (is_requested _ _ (asked (goal.at.returns-in_err-judge c).In-Some)).0 (sym c.judge.ensures ∙ c.in_err-judge.was)), subst (λ (r : Result Writing Reason). IfOk r (λ w. w.most ≤ 9600)) (sym e) tt)

pub returns-in_default-settings_of : goal.returns-in_default-settings_of
returns-in_default-settings_of c = (ap (with_columns _) (not_settings _ _ _ _ (is_requested _ _ (asked (goal.at.returns-in_default-settings_of c).In-Some)).0 (sym c.judge.ensures ∙ c.in_ok-judge.was) (sym c.settings_of.ensures ∙ c.in_default-settings_of.is)), tt)

pub returns : goal.returns
returns c =
    let q : _ = is_requested _ _ (asked (goal.at.returns c).In-Some) in
    (rw q.1 (ap (with_columns _) (all_fine _ _ _ _ q.0 (sym c.judge.ensures ∙ c.in_ok-judge.was) (sym c.settings_of.ensures ∙ c.in-Some-settings_of.is) (sym c.last_not_encodable.ensures ∙ c.if-last_not_encodable.false))), rw c.in-Some.is at c.requested.ensures.1)
