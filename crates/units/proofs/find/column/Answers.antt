-- `units::find::column` meets its contract: a column is the pels of two rows. Assumes nothing.
use mathlib.Core.Path.{◌≡◌}
use native.Mathlib.Omega.{arith}
use Rattle.position.specs.Position.{columns_before}
use Rattle.position.proofs.Positions.{count_after}
use Rattle.bitmap.proofs.Taken.{column_bits}
use Rattle.units.proofs.find.column.Goals.{After-position_after}
use Rattle.units.proofs.find.column.Goals as goal

count : (c : After-position_after) → columns_before c.position_after.result ≡ c.args.at
count c = rw c.position_after.ensures (count_after _)

pub top_bit-top-requires : goal.top_bit-top-requires
top_bit-top-requires c = let p : _ = c.requires.0 in omega (arith, count (goal.at.top_bit-top-requires c).After-position_after, p.few, p.count)

pub bit-requires : goal.bit-requires
bit-requires c = let p : _ = c.requires.0 in omega (arith, count (goal.at.bit-requires c).After-position_after, c.top_bit-top.ensures, p.few, p.count)

pub overflow_add-top : goal.overflow_add-top
overflow_add-top c = let p : _ = c.requires.0 in omega (arith, count (goal.at.overflow_add-top c).After-position_after, c.top_bit-top.ensures, p.few, p.count)

pub bit-requires-2 : goal.bit-requires-2
bit-requires-2 c = let p : _ = c.requires.0 in omega (arith, count (goal.at.bit-requires-2 c).After-position_after, c.top_bit-top.ensures, p.few, p.count)

pub returns : goal.returns
returns c = let p : _ = c.requires in
    rw (c.bit.ensures.0, c.bit-2.ensures.0, c.top_bit-top.ensures, c.position_after.ensures) (column_bits _ _ p.0.even (omega (arith, p.1, p.0.count)))
