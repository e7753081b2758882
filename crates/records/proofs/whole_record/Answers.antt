-- `records::whole_record` meets its contract. Assumes nothing.
use Rattle.records.proofs.Order.{whole_short, whole_enough}
use Rattle.records.proofs.whole_record.Goals as goal

pub returns-then-left-lt76 : goal.returns-then-left-lt76
returns-then-left-lt76 c = whole_short _ _ c.if-left-lt76.true

pub returns-else-left-lt76 : goal.returns-else-left-lt76
returns-else-left-lt76 c = whole_enough _ _ c.if-left-lt76.false
