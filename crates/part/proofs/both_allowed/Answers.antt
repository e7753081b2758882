-- `part::both_allowed` meets its contract. Assumes nothing.
use borrow.Author.Rules.{rules}
use mathlib.Core.Path.{refl, sym, ◌∙◌}
use Rattle.part.specs.Call.{lengths_allowed}
use Rattle.part.proofs.both_allowed.Goals as goal

pub allowed-requires : goal.allowed-requires
unfolding lengths_allowed
allowed-requires c = search rules

pub allowed-requires-then-allowed : goal.allowed-requires-then-allowed
unfolding lengths_allowed
allowed-requires-then-allowed c = search rules

pub returns-then-allowed : goal.returns-then-allowed
unfolding lengths_allowed
returns-then-allowed c = rw (sym c.allowed.ensures ∙ c.if-allowed.true, c.allowed-then-allowed.ensures) refl

pub returns-else-allowed : goal.returns-else-allowed
unfolding lengths_allowed
returns-else-allowed c = rw (sym c.allowed.ensures ∙ c.if-allowed.false) refl
