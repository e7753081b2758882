-- `pbm_writer::put_rows` meets its contract: row by row, what is left to write is the rows that are left. Assumes nothing.
use mathlib.Core.Path.{◌≡◌, refl}
use mathlib.Core.List.{[], ◌++◌, flatten}
use Prim.Native.Nat.{ℕ, ◌+◌, ◌*◌, ◌<◌, ◌≤◌}
use native.Mathlib.Omega.{arith}
use lib.ListN.{get_or, drop, drop_of_length-le}
use Rattle.basics.proofs.Writing.{left_all, left_room, left_on, left_done}
use Rattle.printing.specs.declared.PrintedPage.{PrintedPage}
use Rattle.printing.specs.Printing.{times_of}
use Rattle.printing.specs.Page.{rows_of}
use Rattle.printing.proofs.Rows.{length_printed, printed_first}
use Rattle.pbm_writer.proofs.put_rows.Goals as goal

first : (p : PrintedPage) {k : ℕ} → k < times_of p.times * p.lines → flatten (drop k (rows_of p)) ≡ get_or (rows_of p) k [] ++ flatten (drop (k + 1) (rows_of p))
unfolding flatten
first p {k} h = rw (printed_first p.times p.lines k h p.bitmap.now) refl

none : (p : PrintedPage) {k : ℕ} → times_of p.times * p.lines ≤ k → flatten (drop k (rows_of p)) ≡ []
unfolding flatten
none p {k} h = rw (drop_of_length-le (rows_of p) {i = k} (omega (arith, length_printed (times_of p.times) p.lines (drop 4 p.bitmap.now)))) refl

pub loop-k-init : goal.loop-k-init
loop-k-init c = left_all _ c.requires refl

pub row-requires : goal.row-requires
row-requires c = omega arith

pub put_all-requires : goal.put_all-requires
put_all-requires c = rw c.row.ensures.0 (left_room c.loop-k.invariant (get_or (rows_of c.args.page.now) c.loop-k.k []) _ (first c.args.page.now (omega arith)))

pub loop-k-preserved : goal.loop-k-preserved
loop-k-preserved c = left_on c.loop-k.invariant _ (first c.args.page.now (omega arith)) (rw c.row.ensures.0 at c.put_all.ensures)

pub returns : goal.returns
returns c = left_done c.loop-k.invariant (none c.args.page.now (omega arith))
