-- `record_lines::put_mode` meets its contract: the word of each mode. Assumes nothing.
use Rattle.text.specs.Text.{codes}
use Rattle.record_lines.proofs.put_mode.Goals as goal

pub put_all-requires : goal.put_all-requires
unfolding codes
put_all-requires c = rw c.in-Quality.is at c.requires

pub put_all-requires-in-Detail : goal.put_all-requires-in-Detail
unfolding codes
put_all-requires-in-Detail c = rw c.in-Detail.is at c.requires

pub put_all-requires-in-Express : goal.put_all-requires-in-Express
unfolding codes
put_all-requires-in-Express c = rw c.in-Express.is at c.requires

pub returns-in-Quality : goal.returns-in-Quality
unfolding codes
returns-in-Quality c = rw c.in-Quality.is c.put_all.ensures

pub returns-in-Detail : goal.returns-in-Detail
unfolding codes
returns-in-Detail c = rw c.in-Detail.is c.put_all-in-Detail.ensures

pub returns-in-Express : goal.returns-in-Express
unfolding codes
returns-in-Express c = rw c.in-Express.is c.put_all-in-Express.ensures
