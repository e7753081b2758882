-- `register::Checker::new` meets its contract: the generator of a setting that is allowed is below 4096. Assumes nothing.
use Rattle.std.proofs.Common.{sym, ◌∙◌}
use Rattle.register.proofs.Setting.{allowed}
use Rattle.register.proofs.Checker.new.Goals as goal

pub table-table-requires : goal.table-table-requires
table-table-requires c = (allowed _ (sym c.allowed.ensures ∙ c.if-not-allowed.false)).generator
