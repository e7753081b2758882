use mathlib.Core.List.{flatten}
use lib.ListN.{drop}
use Rattle.basics.proofs.Writing.{Left}
use Rattle.printing.specs.Page.{rows_of}
use Rattle.pbm_writer.proofs.put_rows.Given as goal

abbrev pub invariant-loop-k : goal.invariant-loop-k
invariant-loop-k l = Left (flatten (rows_of l.page)) l.initial.out (flatten (drop l.k (rows_of l.page))) l.out
