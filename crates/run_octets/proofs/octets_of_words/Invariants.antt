use Prim.Native.Nat.{◌*◌}
use lib.ListN.{drop}
use Rattle.basics.proofs.Writing.{Writing}
use Rattle.run_octets.specs.Octets.{octets_of_words}
use Rattle.run_octets.proofs.octets_of_words.Given as goal

abbrev pub invariant-loop-i : goal.invariant-loop-i
invariant-loop-i l = Writing 0 (octets_of_words l.words) l.initial.out (2 * l.i) (octets_of_words (drop l.i l.words)) l.out
