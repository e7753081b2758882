-- `records::sent_frame` meets its contract. Assumes nothing.
use mathlib.Core.Path.{◌∙◌}
use Rattle.records.proofs.Order.{frame_all}
use Rattle.records.proofs.sent_frame.Goals as goal

pub returns : goal.returns
returns c = c.turned.ensures ∙ frame_all c.args.file.now c.args.at
