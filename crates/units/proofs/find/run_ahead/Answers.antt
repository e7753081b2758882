-- `units::find::run_ahead` meets its contract: row pair by row pair, all columns passed are of the state. Assumes nothing.
use native.Mathlib.Omega.{arith}
use Rattle.units.proofs.Ahead.{passed_none, passed_more, passed_stop, ahead_is}
use Rattle.units.proofs.find.run_ahead.Goals as goal

pub overflow_add-at : goal.overflow_add-at
overflow_add-at c = let p : _ = c.requires.0 in omega (arith, p.few, p.count)

pub loop-i-init : goal.loop-i-init
loop-i-init c = (omega arith, omega arith, passed_none _ _ _)

pub overflow_add-top-in-loop-i : goal.overflow_add-top-in-loop-i
overflow_add-top-in-loop-i c = let p : _ = c.requires.0 in omega (arith, p.few, p.count)

pub first_change-y-requires : goal.first_change-y-requires
first_change-y-requires c = let p : _ = c.requires.0 in (omega arith, omega arith, omega (arith, p.size, p.even, p.count), omega (arith, p.size, p.even, p.count), c.pels-state.ensures.1)

pub overflow_sub-i : goal.overflow_sub-i
overflow_sub-i c = c.first_change-y.ensures.low

pub overflow_add-i : goal.overflow_add-i
overflow_add-i c = let p : _ = c.requires.0 in omega (arith, c.first_change-y.ensures.high, p.few, p.count)

pub overflow_sub-result : goal.overflow_sub-result
overflow_sub-result c = omega (arith, c.first_change-y.ensures.low)

pub returns-then-y-to : goal.returns-then-y-to
returns-then-y-to c = let p : _ = c.requires.0 in let a : _ = c.first_change-y.ensures in
    let i : _ = c.loop-i in (
      ahead_is p _ _ _ _ _ c.pels-state.ensures.0 (passed_more p i.i a (omega arith) (omega arith) _ i.invariant.2)
          (omega (arith, a.low)) (omega (arith, a.high)) (omega (arith, a.high)) (λ m o. passed_stop p i.i a (omega arith) (omega arith) c.if-y-to.true),
      omega (arith, a.low, a.high),
    )

pub loop-i-smaller : goal.loop-i-smaller
loop-i-smaller c = omega (arith, c.first_change-y.ensures.low, c.first_change-y.ensures.high)

pub loop-i-preserved : goal.loop-i-preserved
loop-i-preserved c = let p : _ = c.requires.0 in let a : _ = c.first_change-y.ensures in
    let i : _ = c.loop-i in (omega (arith, a.low), omega (arith, a.high), passed_more p i.i a (omega arith) (omega arith) _ i.invariant.2)

pub returns : goal.returns
returns c = (
  ahead_is c.requires.0 _ _ _ _ _ c.pels-state.ensures.0 c.loop-i.invariant.2
      (omega arith) (omega arith) (omega arith) (λ m o. absurd (omega arith)),
  omega arith,
)
