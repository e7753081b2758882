use Prim.Native.Nat.{◌+◌, ◌-◌, ◌*◌}
use lib.ListN.{drop}
use Rattle.basics.proofs.Writing.{Left}
use Rattle.pbm.specs.Read.{rows_in}
use Rattle.pbm_reader.proofs.rows.put_page.Given as goal

abbrev pub invariant-loop-r : goal.invariant-loop-r
invariant-loop-r l = Left (rows_in l.lines (drop l.from l.file)) l.initial.page (rows_in (l.lines - l.r) (drop (l.from + 216 * l.r) l.file)) l.page
