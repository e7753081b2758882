use mathlib.Core.Path.{◌≡◌}
use mathlib.Core.Bool.{true}
use Prim.Native.Nat.{◌*◌}
use lib.ListN.{drop}
use Rattle.basics.proofs.Writing.{Left}
use Rattle.capture.specs.Extract.{all_within, file_of_list}
use Rattle.capture.proofs.Extracts.{file_from}
use Rattle.capture_records.proofs.put_file.Given as goal

abbrev pub invariant-loop-k : goal.invariant-loop-k
invariant-loop-k l = (all_within l.octets (drop (2 * l.k) l.list) ≡ true) × Left (file_of_list l.octets l.list) l.initial.out (file_from l.octets l.list l.k) l.out
