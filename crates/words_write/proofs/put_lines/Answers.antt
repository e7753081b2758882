-- `words_write::put_lines` meets its contract: line by line, what is left to write is the words of the rows that are left. Assumes nothing.
use native.Mathlib.Omega.{arith}
use Rattle.words.specs.Lines.{ended_line}
use Rattle.basics.proofs.Writing.{left_room, left_on, left_done}
use Rattle.words_write.proofs.Writes.{lines_first, lines_end}
use Rattle.words_write.proofs.put_lines.Goals as goal

pub put_line-requires : goal.put_line-requires
put_line-requires c = (omega arith, omega arith, left_room c.loop-r.invariant (ended_line _) _ (lines_first _ c.loop-r-test.true))

pub loop-r-preserved : goal.loop-r-preserved
loop-r-preserved c = left_on c.loop-r.invariant _ (lines_first _ c.loop-r-test.true) c.put_line.ensures

pub returns : goal.returns
returns c = left_done c.loop-r.invariant (lines_end _ c.loop-r-test.false)
