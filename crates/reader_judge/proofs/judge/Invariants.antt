use Prim.Native.Nat.{◌-◌, ◌*◌}
use lib.ListN.{length}
use Rattle.reader_judge.proofs.Files.{Judging}
use Rattle.reader_judge.proofs.judge.Given as goal

abbrev pub invariant-loop-fault : goal.invariant-loop-fault
invariant-loop-fault l = Judging l.checker.setting l.file l.k l.p

abbrev pub decreases-loop-fault : goal.decreases-loop-fault
decreases-loop-fault l = length l.file - 76 * l.k
