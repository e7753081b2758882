-- `units::next::moved` meets its contract. Assumes nothing.
use mathlib.Core.Path.{sym, ◌∙◌}
use native.Mathlib.Omega.{arith}
use Rattle.units.proofs.Ahead.{page_columns}
use Rattle.units.proofs.Units.{tells_nothing, tells_move}
use Rattle.units.proofs.next.moved.Goals as goal

pub returns-then-at-columns : goal.returns-then-at-columns
returns-then-at-columns c = let p : _ = c.requires in rw c.last.ensures (tells_nothing _ _ _ _ p.2 (c.if-at-columns.true ∙ sym (page_columns p.0)))

pub returns : goal.returns
returns c = let p : _ = c.requires in
    rw c.going_on.ensures (tells_move _ _ _ _ p.2 (omega (arith, page_columns p.0, p.1, c.if-at-columns.false)) c.column.ensures c.with_pels-c.ensures c.arc-arc.ensures.0 c.arc-arc.ensures.1 c.arc-arc.ensures.2 c.arc-arc.ensures.3 c.due_in.ensures)
