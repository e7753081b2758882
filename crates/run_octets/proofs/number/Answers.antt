-- `run_octets::number` meets its contract. Assumes nothing.
use Rattle.run_octets.proofs.Signs.{below_number, above_number}
use Rattle.run_octets.proofs.number.Goals as goal

pub overflow_sub-result : goal.overflow_sub-result
overflow_sub-result c = (below_number c.ranges.word c.size.ensures c.if-word-lt0.true).0

pub returns-then-word-lt0 : goal.returns-then-word-lt0
returns-then-word-lt0 c = let b : _ = below_number c.ranges.word c.size.ensures c.if-word-lt0.true in (b.1, b.2)

pub returns-else-word-lt0 : goal.returns-else-word-lt0
returns-else-word-lt0 c = above_number c.ranges.word c.size-else-word-lt0.ensures c.if-word-lt0.false
