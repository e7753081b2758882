-- `part::read` meets its contract: nothing is laid before all is judged. Assumes nothing.
use mathlib.Core.Path.{refl, sym}
use native.Mathlib.Omega.{arith}
use lib.Seq.{length-take-le}
use Rattle.part.proofs.Called.{none, steps_held, laid_length, too_short, with_columns}
use Rattle.part.proofs.read.Goals as goal

pub slice_bounds-lay-end : goal.slice_bounds-lay-end
slice_bounds-lay-end c = sym (length-take-le _ _ (steps_held _ _ _ _ _ _ _ c.steps.ensures c.in-Ok.is).within)

pub lay-requires : goal.lay-requires
lay-requires c = let h = laid_length _ _ _ _ (steps_held _ _ _ _ _ _ _ c.steps.ensures c.in-Ok.is) in omega arith

pub returns-then-r-out : goal.returns-then-r-out
returns-then-r-out c =
    too_short _ _ _ _ (steps_held _ _ _ _ _ _ _ c.steps.ensures c.in-Ok.is) _ _
    (rw c.into-then-r-out.ensures refl) c.if-r-out.true

pub returns-in-Err : goal.returns-in-Err
returns-in-Err c =
    rw (none _ _ _ _ _ _ _ c.steps.ensures c.in-Err.is, c.into.ensures, c.no_reading.ensures) refl

pub returns-else-r-out : goal.returns-else-r-out
returns-else-r-out c = with_columns _ _ _ _ (steps_held _ _ _ _ _ _ _ c.steps.ensures c.in-Ok.is) _ _ (omega arith) c.lay.ensures

pub slice_bounds-entries-end : goal.slice_bounds-entries-end
slice_bounds-entries-end c = (steps_held _ _ _ _ _ _ _ c.steps.ensures c.in-Ok.is).within
