-- `turning::reverse` meets its contract. Assumes nothing.
use native.Mathlib.Omega.{arith}
use Rattle.turning.proofs.Swapped.{swap, masked, halves, swapped_is}
use Rattle.turning.proofs.reverse.Goals as goal

pub overflow_mul-pairs : goal.overflow_mul-pairs
overflow_mul-pairs c = record { fits = omega (arith, masked 4 51 (halves c.args.x)) }

pub overflow_add-pairs : goal.overflow_add-pairs
overflow_add-pairs c = record { fits = omega (arith, masked 4 51 (halves c.args.x)) }

pub overflow_mul-result : goal.overflow_mul-result
overflow_mul-result c = record { fits = omega (arith, masked 2 85 (swap 4 51 (halves c.args.x))) }

pub overflow_add-result : goal.overflow_add-result
overflow_add-result c = record { fits = omega (arith, masked 2 85 (swap 4 51 (halves c.args.x))) }

pub returns : goal.returns
returns c = swapped_is c.args.x (omega arith)
