-- `capture_records::all_within` meets its contract: entry by entry, whether those that are left are within is whether all are. Assumes nothing.
use mathlib.Core.Path.{refl, sym, ◌∙◌}
use native.Mathlib.Omega.{arith}
use Rattle.capture.proofs.Extracts.{within_first, within_end}
use Rattle.capture_records.proofs.all_within.Goals as goal

pub returns-then-not-is_within : goal.returns-then-not-is_within
returns-then-not-is_within c =
    let l : _ = c.loop-i in
    sym (sym l.invariant ∙ within_first _ _ l.i (omega arith) ∙ rw (sym c.is_within.ensures ∙ c.if-not-is_within.true) refl)

pub loop-i-preserved : goal.loop-i-preserved
loop-i-preserved c =
    let l : _ = c.loop-i in
    sym (sym l.invariant ∙ within_first _ _ l.i (omega arith) ∙ rw (sym c.is_within.ensures ∙ c.if-not-is_within.false) refl)

pub loop-i-init : goal.loop-i-init
loop-i-init c = refl

pub returns : goal.returns
returns c = let l : _ = c.loop-i in sym (within_end _ _ l.i (omega arith)) ∙ l.invariant
