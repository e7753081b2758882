use Prim.Native.Nat.{◌*◌}
use lib.ListN.{drop}
use Rattle.basics.proofs.Writing.{Writing}
use Rattle.run_octets.specs.Octets.{words_of_octets}
use Rattle.run_octets.proofs.words_of_octets.Given as goal

abbrev pub invariant-loop-i : goal.invariant-loop-i
invariant-loop-i l = Writing 0 (words_of_octets l.octets) l.initial.out l.i (words_of_octets (drop (2 * l.i) l.octets)) l.out
