-- `words_write::count` meets its contract: the words counted and those of the rows that are left are all. Assumes nothing.
use mathlib.Core.Path.{sym, ◌∙◌}
use native.Mathlib.Nat.{add-zero}
use native.Mathlib.Omega.{arith}
use borrow.Author.Rules.{rules}
use Rattle.words_write.proofs.Writes.{line_few, lines_first_length, lines_end}
use Rattle.words_write.proofs.count.Goals as goal

pub loop-r-preserved : goal.loop-r-preserved
loop-r-preserved c =
    let l : _ = c.loop-r in
    let f : _ = line_few c.args.bitmap.now l.r in
    let e : _ = lines_first_length c.args.bitmap.now c.loop-r-test.true in
    let a : _ = c.put_line.ensures.at in
    (omega arith, search rules, omega (arith, l.invariant.2))

pub put_line-requires : goal.put_line-requires
put_line-requires c = (omega arith, omega arith, omega (arith, line_few c.args.bitmap.now c.loop-r.r, c.loop-r.invariant.1))

pub overflow_add-n : goal.overflow_add-n
overflow_add-n c = omega (arith, line_few c.args.bitmap.now c.loop-r.r)

pub returns : goal.returns
returns c = (sym (add-zero _) ∙ rw (lines_end _ c.loop-r-test.false) at c.loop-r.invariant.2, omega arith)
