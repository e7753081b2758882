-- `words::colour` meets its contract. Assumes nothing.
use mathlib.Core.Path.{sym, ap}
use Rattle.octets.specs.Bits.{num}
use Rattle.words.proofs.Signs.{low_black, high_white}
use Rattle.words.proofs.colour.Goals as goal

pub returns-then-word-lt0 : goal.returns-then-word-lt0
returns-then-word-lt0 c = sym (ap num (low_black c.ranges.word c.if-word-lt0.true))

pub returns-else-word-lt0 : goal.returns-else-word-lt0
returns-else-word-lt0 c = sym (ap num (high_white c.ranges.word c.if-word-lt0.false))
