-- `frame_parse::parse` meets its contract: each return has the tests before it. Assumes nothing.
use mathlib.Core.Path.{sym, ◌∙◌}
use Rattle.frame.specs.Layout.{parsed}
use Rattle.frame.proofs.Frames.{no_sync, no_check, both_agree}
use Rattle.frame_parse.proofs.parse.Goals as goal

pub returns-then-not-sync_agrees : goal.returns-then-not-sync_agrees
unfolding parsed
returns-then-not-sync_agrees c = no_sync _ _ _ (sym c.sync_agrees.ensures ∙ c.if-not-sync_agrees.true)

pub returns-then-not-check_agrees : goal.returns-then-not-check_agrees
unfolding parsed
returns-then-not-check_agrees c =
    no_check _ _ _ (sym c.sync_agrees.ensures ∙ c.if-not-sync_agrees.false) (sym c.check_agrees.ensures ∙ c.if-not-check_agrees.true)

pub returns : goal.returns
unfolding parsed
returns c =
    c.content.ensures
    ∙ both_agree _ _ _ (sym c.sync_agrees.ensures ∙ c.if-not-sync_agrees.false) (sym c.check_agrees.ensures ∙ c.if-not-check_agrees.false)
