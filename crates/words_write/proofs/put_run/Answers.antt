-- `words_write::put_run` meets its contract: a black run, a white one that is not trailing, and any other. Assumes nothing.
use borrow.Author.Rules.{sfits_of}
use mir.Facts.{to_z-of_z}
use Rattle.basics.proofs.Writing.{writes_none}
use Rattle.words_write.proofs.Writes.{run_black, run_white, run_none}
use Rattle.words_write.proofs.put_run.Goals as goal

pub put-requires : goal.put-requires
put-requires c = rw (run_black c.args.x c.args.y c.if-s-eq3.true) at c.requires.2

pub put-requires-then-y-lt-PELS_PER_LINE : goal.put-requires-then-y-lt-PELS_PER_LINE
put-requires-then-y-lt-PELS_PER_LINE c = rw (run_white c.args.x c.args.y c.if-s-eq3.false c.if-y-lt-PELS_PER_LINE.true) at c.requires.2

pub returns-then-s-eq3 : goal.returns-then-s-eq3
returns-then-s-eq3 c = rw (run_black c.args.x c.args.y c.if-s-eq3.true) (rw (to_z-of_z (sfits_of c.word.type_inv), c.word.ensures) at c.put.ensures)

pub returns-then-y-lt-PELS_PER_LINE : goal.returns-then-y-lt-PELS_PER_LINE
returns-then-y-lt-PELS_PER_LINE c =
    rw (run_white c.args.x c.args.y c.if-s-eq3.false c.if-y-lt-PELS_PER_LINE.true) (rw (to_z-of_z (sfits_of c.word-then-y-lt-PELS_PER_LINE.type_inv), c.word-then-y-lt-PELS_PER_LINE.ensures) at c.put-then-y-lt-PELS_PER_LINE.ensures)

pub returns-else-y-lt-PELS_PER_LINE : goal.returns-else-y-lt-PELS_PER_LINE
returns-else-y-lt-PELS_PER_LINE c = rw (run_none c.args.x c.args.y c.if-s-eq3.false c.if-y-lt-PELS_PER_LINE.false) (writes_none _)
