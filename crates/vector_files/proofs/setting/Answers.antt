-- `vector_files::setting` meets its contract: the recorded setting is allowed, whether it compares or not. Assumes nothing.
use mathlib.Core.Path.{refl}
use borrow.Author.Rules.{rules}
use Rattle.register.specs.Setting.{allowed_check}
use Rattle.vector_files.proofs.setting.Goals as goal

pub recorded-c-requires : goal.recorded-c-requires
unfolding allowed_check
recorded-c-requires c = search rules

pub returns : goal.returns
unfolding allowed_check
returns c = rw c.recorded-c.ensures refl
