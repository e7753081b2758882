-- `reader_judge::octets_read` meets its contract. Assumes nothing.
use native.Mathlib.Omega.{arith}
use Rattle.reader_judge.specs.File.{most_octets}
use Rattle.reader_judge.proofs.octets_read.Goals as goal

pub returns-then-n-lt-MOST_OCTETS : goal.returns-then-n-lt-MOST_OCTETS
unfolding most_octets
returns-then-n-lt-MOST_OCTETS c = omega arith

pub returns-else-n-lt-MOST_OCTETS : goal.returns-else-n-lt-MOST_OCTETS
unfolding most_octets
returns-else-n-lt-MOST_OCTETS c = omega arith
