-- `words::size` meets its contract. Assumes nothing.
use mathlib.Core.Path.{refl}
use mir.Facts.{to_z-of_z, sfits_widen, Fits-nat_abs}
use Rattle.words.proofs.Signs.{less_fits, low_size, high_size}
use Rattle.words.proofs.size.Goals as goal

pub overflow_cast-v : goal.overflow_cast-v
overflow_cast-v c = rw (to_z-of_z c.ranges.word) (sfits_widen tt c.ranges.word)

pub overflow_sub-result : goal.overflow_sub-result
overflow_sub-result c = less_fits c.ranges.word

pub overflow_cast-result : goal.overflow_cast-result
overflow_cast-result c = rw (low_size c.ranges.word c.if-v-lt0.true) (tt, Fits-nat_abs tt c.ranges.word)

pub overflow_cast-result-else-v-lt0 : goal.overflow_cast-result-else-v-lt0
overflow_cast-result-else-v-lt0 c = rw (high_size c.ranges.word c.if-v-lt0.false) (tt, Fits-nat_abs tt c.ranges.word)

pub returns-then-v-lt0 : goal.returns-then-v-lt0
returns-then-v-lt0 c = rw (low_size c.ranges.word c.if-v-lt0.true) refl

pub returns-else-v-lt0 : goal.returns-else-v-lt0
returns-else-v-lt0 c = rw (high_size c.ranges.word c.if-v-lt0.false) refl
