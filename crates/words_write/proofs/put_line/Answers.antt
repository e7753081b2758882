-- `words_write::put_line` meets its contract: run by run, what is left to write is the words of the pels that are left. Assumes nothing.
use native.Mathlib.Omega.{arith}
use Rattle.words_write.specs.Written.{run_word}
use Rattle.basics.proofs.Writing.{left_all, left_room, left_rest, left_on, left_end}
use Rattle.words_write.proofs.Writes.{first_pel, run_further, run_turned, run_first, line_all, line_ended}
use Rattle.words_write.proofs.put_line.Goals as goal

pub put_run-requires : goal.put_run-requires
put_run-requires c =
    let l : _ = c.loop-x in
    let h : _ = c.loop-x-test.true in
    let a : _ = c.first_change-y.ensures in
    (a.low, a.high, left_room l.invariant.3 (run_word _ _ _) _ (run_first h (l.invariant.2 h) a _))

pub loop-x-preserved : goal.loop-x-preserved
loop-x-preserved c =
    let l : _ = c.loop-x in
    let h : _ = c.loop-x-test.true in
    let a : _ = c.first_change-y.ensures in
    (a.high, omega arith, run_turned h (l.invariant.2 h) a, left_on l.invariant.3 _ (run_first h (l.invariant.2 h) a _) c.put_run.ensures)

pub loop-x-init : goal.loop-x-init
loop-x-init c = (omega arith, omega arith, λ _. first_pel _ _ c.bit-s.ensures.0, left_all _ c.requires.2 (line_all _ _))

pub loop-x-smaller : goal.loop-x-smaller
loop-x-smaller c = let h : _ = c.loop-x-test.true in omega (arith, run_further h (c.loop-x.invariant.2 h) c.first_change-y.ensures)

pub put_line_end-requires : goal.put_line_end-requires
put_line_end-requires c = left_rest (line_ended _ _ _ c.loop-x-test.false c.loop-x.invariant.3)

pub returns : goal.returns
returns c = left_end (line_ended _ _ _ c.loop-x-test.false c.loop-x.invariant.3) c.put_line_end.ensures
