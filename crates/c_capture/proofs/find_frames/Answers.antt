-- `c_capture::find_frames` meets its contract: the check setting is judged, and the call's answer is handed on. Assumes nothing.
use mathlib.Core.Bool.{true}
use mathlib.Core.Path.{◌≡◌, sym, ◌∙◌}
use Rattle.c_check.specs.Setting.{is_setting}
use Rattle.c_capture.proofs.Returns.{no_finding, frames_found, finding_refused}
use Rattle.c_capture.proofs.find_frames.Goals.{After-check_setting_of}
use Rattle.c_capture.proofs.find_frames.Goals as goal

-- behind the test the numbers say a check setting
set : (c : After-check_setting_of) → is_setting c.args.check.now ≡ true
set c = sym c.is_setting.ensures ∙ c.if-not-is_setting.false

pub returns-in-Ok : goal.returns-in-Ok
returns-in-Ok c =
    frames_found _ _ _ _ (set (goal.at.returns-in-Ok c).After-check_setting_of) c.check_setting_of.ensures c.find_frames.ensures c.in-Ok.is

pub returns-in-Err : goal.returns-in-Err
returns-in-Err c =
    finding_refused _ _ _ _ (set (goal.at.returns-in-Err c).After-check_setting_of) c.check_setting_of.ensures c.find_frames.ensures c.in-Err.is c.into-in-Err.ensures.0

pub returns-then-not-is_setting : goal.returns-then-not-is_setting
returns-then-not-is_setting c = no_finding _ _ _ _ (sym c.is_setting.ensures ∙ c.if-not-is_setting.true) c.into.ensures.0
