-- `record_lines::put_paper` meets its contract: the length of each paper. Assumes nothing.
use Rattle.text.specs.Text.{codes}
use Rattle.record_lines.proofs.put_paper.Goals as goal

pub put_all-requires : goal.put_all-requires
unfolding codes
put_all-requires c = rw c.in-Eleven.is at c.requires

pub put_all-requires-in-FiveAndHalf : goal.put_all-requires-in-FiveAndHalf
unfolding codes
put_all-requires-in-FiveAndHalf c = rw c.in-FiveAndHalf.is at c.requires

pub put_all-requires-in-Fourteen : goal.put_all-requires-in-Fourteen
unfolding codes
put_all-requires-in-Fourteen c = rw c.in-Fourteen.is at c.requires

pub returns-in-Eleven : goal.returns-in-Eleven
unfolding codes
returns-in-Eleven c = rw c.in-Eleven.is c.put_all.ensures

pub returns-in-FiveAndHalf : goal.returns-in-FiveAndHalf
unfolding codes
returns-in-FiveAndHalf c = rw c.in-FiveAndHalf.is c.put_all-in-FiveAndHalf.ensures

pub returns-in-Fourteen : goal.returns-in-Fourteen
unfolding codes
returns-in-Fourteen c = rw c.in-Fourteen.is c.put_all-in-Fourteen.ensures
