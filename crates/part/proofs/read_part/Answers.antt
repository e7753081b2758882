-- `part::read_part` meets its contract: the answer and the output are the definition's, and demand 3 is met. Assumes nothing.
use mathlib.Core.Path.{refl, sym, ◌∙◌}
use Rattle.octets.proofs.Fields.{length_bits}
use Rattle.refusal.proofs.Passed.{passed_on}
use Rattle.part.proofs.Called.{fine, fine_part, refused_part, not_fine, call_reads}
use Rattle.part.proofs.read_part.Goals as goal

pub returns : goal.returns
returns c =
    let j : _ = sym c.judge.ensures ∙ c.in_ok-judge.was in
    let e : _ = c.read.ensures in
    record { answer = e ∙ fine_part _ _ _ _ j; readings = λ f. call_reads _ _ _ _ (sym (length_bits _ 0 _)) (fine _ _ _ f).1 _ e }

pub returns-in_err-judge : goal.returns-in_err-judge
returns-in_err-judge c =
    let j : _ = sym c.judge.ensures ∙ c.in_err-judge.was in
    record { answer = refused_part _ _ _ _ _ _ j (rw (passed_on _ c.from_residual.ensures.1) refl); readings = λ f. absurd (not_fine _ _ _ _ j f) }

pub read-requires : goal.read-requires
read-requires c = fine _ _ _ (sym c.judge.ensures ∙ c.in_ok-judge.was)
