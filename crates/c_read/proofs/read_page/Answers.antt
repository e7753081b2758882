-- `c_read::read_page` meets its contract. Assumes nothing.
use mathlib.Core.Bool.{true}
use mathlib.Core.Path.{◌≡◌, sym, ap, ◌∙◌}
use Rattle.c_check.specs.Setting.{is_setting}
use Rattle.reader.proofs.Answers.{read_place}
use Rattle.c_refusal.proofs.Owed.{small_refusal}
use Rattle.c_read.proofs.Returns.{no_reading_lem, page_read, page_refused}
use Rattle.c_read.proofs.read_page.Goals.{After-check_setting_of}
use Rattle.c_read.proofs.read_page.Goals as goal
use Rattle.refusal.specs.Reply.{reply_of}

-- behind the test the numbers say a check setting
set : (c : After-check_setting_of) → is_setting c.args.check.now ≡ true
set c = sym c.is_setting.ensures ∙ c.if-not-is_setting.false

pub returns-in-Ok : goal.returns-in-Ok
returns-in-Ok c =
    page_read _ _ _ _ (set (goal.at.returns-in-Ok c).After-check_setting_of) c.check_setting_of.ensures c.read_page.ensures c.in-Ok.is c.page_numbers.ensures

pub returns-in-Err : goal.returns-in-Err
returns-in-Err c =
    page_refused _ _ _ _ (set (goal.at.returns-in-Err c).After-check_setting_of) c.check_setting_of.ensures c.read_page.ensures c.in-Err.is c.refusal_code.ensures

pub returns-then-not-is_setting : goal.returns-then-not-is_setting
returns-then-not-is_setting c = no_reading_lem _ _ _ _ (sym c.is_setting.ensures ∙ c.if-not-is_setting.true) c.into.ensures.0

pub refusal_code-requires : goal.refusal_code-requires
refusal_code-requires c = small_refusal c.read_page.ensures (read_place _ _ _) (ap reply_of c.in-Err.is)
