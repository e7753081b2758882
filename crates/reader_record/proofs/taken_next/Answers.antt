-- `reader_record::taken_next` meets its contract. Assumes nothing.
use mathlib.Core.Path.{refl}
use Rattle.refusal.proofs.Passed.{passed_on}
use Rattle.reader_record.proofs.taken_next.Goals as goal

pub returns-in_err-settings : goal.returns-in_err-settings
returns-in_err-settings c = rw (c.in_err-settings.was, passed_on _ c.from_residual.ensures.1) refl

pub returns-in-SetUp : goal.returns-in-SetUp
returns-in-SetUp c = rw (c.in_ok-settings.was, c.in-SetUp.is, c.with_set_up.ensures) refl

pub returns-in-Data : goal.returns-in-Data
returns-in-Data c = rw (c.in_ok-settings.was, c.in-Data.is, c.data_next.ensures) refl
