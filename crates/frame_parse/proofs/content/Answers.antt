-- `frame_parse::content` meets its contract. Assumes nothing.
use mathlib.Core.Path.{refl}
use Rattle.frame_parse.proofs.content.Goals as goal

pub returns-in-SetUp : goal.returns-in-SetUp
returns-in-SetUp c = rw (c.in-SetUp.is, c.set_up.ensures) refl

pub returns-in-Data : goal.returns-in-Data
returns-in-Data c = rw (c.in-Data.is, c.header.ensures) refl
