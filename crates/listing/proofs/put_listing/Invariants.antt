use Prim.Native.Nat.{◌-◌, ◌*◌}
use lib.ListN.{length}
use Rattle.reader_judge.proofs.Files.{Judging}
use Rattle.listing.proofs.Listed.{Listed}
use Rattle.listing.proofs.put_listing.Given as goal

abbrev pub invariant-loop-fault : goal.invariant-loop-fault
invariant-loop-fault l = Judging l.checker.setting l.file l.k l.p × Listed l.checker.setting l.file l.initial.out l.k l.p l.out

abbrev pub decreases-loop-fault : goal.decreases-loop-fault
decreases-loop-fault l = length l.file - 76 * l.k
