-- `record_lines::put_record` meets its contract: the line of each kind of record. Assumes nothing.
use Rattle.record_lines.proofs.put_record.Goals as goal

pub put_set_up-requires : goal.put_set_up-requires
put_set_up-requires c = rw c.in-SetUp.is at c.requires

pub put_data-requires : goal.put_data-requires
put_data-requires c = rw c.in-Data.is at c.requires

pub returns-in-SetUp : goal.returns-in-SetUp
returns-in-SetUp c = rw c.in-SetUp.is c.put_set_up.ensures

pub returns-in-Data : goal.returns-in-Data
returns-in-Data c = rw c.in-Data.is c.put_data.ensures
