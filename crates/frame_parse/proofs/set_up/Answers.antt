-- `frame_parse::set_up` meets its contract: the sequence, then the settings. Assumes nothing.
use mathlib.Core.Path.{ap, sym, ◌∙◌}
use Rattle.frame.specs.Layout.{set_up_of, settings_parsed}
use Rattle.settings.specs.Settings.{settings_of}
use Rattle.frame.proofs.Frames.{sequence_wrong, sequence_right}
use Rattle.frame_parse.proofs.set_up.Goals as goal

pub returns-then-number-ne0 : goal.returns-then-number-ne0
unfolding set_up_of
returns-then-number-ne0 c = sequence_wrong _ _ (λ e. c.if-number-ne0.true (c.number.ensures.0 ∙ e))

pub returns-in-Some : goal.returns-in-Some
unfolding set_up_of
returns-in-Some c =
    sym (ap settings_parsed c.in-Some.is) ∙ ap settings_parsed (c.settings_of.ensures ∙ ap settings_of c.number-2.ensures.0)
    ∙ sequence_right _ _ (sym c.number.ensures.0 ∙ c.if-number-ne0.false)

pub returns-in-None : goal.returns-in-None
unfolding set_up_of
returns-in-None c =
    sym (ap settings_parsed c.in-None.is) ∙ ap settings_parsed (c.settings_of.ensures ∙ ap settings_of c.number-2.ensures.0)
    ∙ sequence_right _ _ (sym c.number.ensures.0 ∙ c.if-number-ne0.false)
