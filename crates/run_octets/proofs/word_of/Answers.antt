-- `run_octets::word_of` meets its contract. Assumes nothing.
use Rattle.run_octets.proofs.Signs.{less_fits, less_word, less_numbered, low_numbered}
use Rattle.run_octets.proofs.word_of.Goals as goal

pub returns-then-n-lt32768 : goal.returns-then-n-lt32768
returns-then-n-lt32768 c = low_numbered c.if-n-lt32768.true

pub overflow_sub-result : goal.overflow_sub-result
overflow_sub-result c = less_fits c.if-n-lt32768.false c.requires

pub overflow_cast-result-2 : goal.overflow_cast-result-2
overflow_cast-result-2 c = less_word c.if-n-lt32768.false c.requires

pub returns : goal.returns
returns c = less_numbered c.if-n-lt32768.false c.requires
