-- `c_write::write_page` meets its contract. Assumes nothing.
use mathlib.Core.Bool.{true}
use mathlib.Core.Path.{◌≡◌, sym, ap, ◌∙◌}
use Rattle.c_check.specs.Setting.{is_setting}
use Rattle.writer.proofs.Judges.{written_place}
use Rattle.c_refusal.proofs.Owed.{small_refusal}
use Rattle.c_write.proofs.Returns.{no_writing, page_written, write_refused}
use Rattle.c_write.proofs.write_page.Goals.{After-check_setting_of}
use Rattle.c_write.proofs.write_page.Goals as goal
use Rattle.refusal.specs.Reply.{reply_of}

-- behind the test the numbers say a check setting
set : (c : After-check_setting_of) → is_setting c.args.check.now ≡ true
set c = sym c.is_setting.ensures ∙ c.if-not-is_setting.false

pub refusal_code-requires : goal.refusal_code-requires
refusal_code-requires c =
    small_refusal c.write_numbered.ensures (written_place _ _ _ _ _) (ap reply_of c.in-Err.is)

pub returns-in-Ok : goal.returns-in-Ok
returns-in-Ok c =
    page_written _ _ _ _ _ _ (set (goal.at.returns-in-Ok c).After-check_setting_of) c.check_setting_of.ensures c.write_numbered.ensures c.in-Ok.is

pub returns-in-Err : goal.returns-in-Err
returns-in-Err c =
    write_refused _ _ _ _ _ _ (set (goal.at.returns-in-Err c).After-check_setting_of) c.check_setting_of.ensures c.write_numbered.ensures c.in-Err.is c.refusal_code.ensures

pub returns-then-not-is_setting : goal.returns-then-not-is_setting
returns-then-not-is_setting c = no_writing _ _ _ _ _ _ (sym c.is_setting.ensures ∙ c.if-not-is_setting.true) c.into.ensures.0
