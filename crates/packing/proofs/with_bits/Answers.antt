-- `packing::with_bits` meets its contract: the parts are small. Assumes nothing.
use native.Mathlib.Omega.{arith}
use Rattle.packing.proofs.Octetwise.{Parts, parts}
use Rattle.packing.proofs.with_bits.Goals.{After-weight-h}
use Rattle.packing.proofs.with_bits.Goals as goal

from : (c : After-weight-h) → let a = c.args in Parts a.y a.m a.n a.v c.weight-w.result c.weight-f.result c.weight-h.result
from c = parts _ _ _ _ _ _ _ (omega arith) (omega arith) c.weight-w.ensures c.weight-f.ensures c.weight-h.ensures

pub nonzero_div-result : goal.nonzero_div-result
nonzero_div-result c = (from (goal.at.nonzero_div-result c).After-weight-h).some_high

pub overflow_mul-result : goal.overflow_mul-result
overflow_mul-result c = omega (arith, from (goal.at.overflow_mul-result c).After-weight-h)

pub nonzero_rem-result : goal.nonzero_rem-result
nonzero_rem-result c = (from (goal.at.nonzero_rem-result c).After-weight-h).some

pub overflow_mul-result-2 : goal.overflow_mul-result-2
overflow_mul-result-2 c = omega (arith, from (goal.at.overflow_mul-result-2 c).After-weight-h)

pub overflow_add-result : goal.overflow_add-result
overflow_add-result c = omega (arith, from (goal.at.overflow_add-result c).After-weight-h)

pub nonzero_rem-result-2 : goal.nonzero_rem-result-2
nonzero_rem-result-2 c = (from (goal.at.nonzero_rem-result-2 c).After-weight-h).some_low

pub overflow_add-result-2 : goal.overflow_add-result-2
overflow_add-result-2 c = omega (arith, from (goal.at.overflow_add-result-2 c).After-weight-h)

pub overflow_cast-result-2 : goal.overflow_cast-result-2
overflow_cast-result-2 c = omega (arith, from (goal.at.overflow_cast-result-2 c).After-weight-h)

pub returns : goal.returns
returns c = (from (goal.at.returns c).After-weight-h).is
