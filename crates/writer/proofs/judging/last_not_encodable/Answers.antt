-- `writer::judging::last_not_encodable` meets its contract. Assumes nothing.
use mathlib.Core.Path.{◌∙◌}
use native.Mathlib.Omega.{arith}
use Rattle.writer.proofs.Judges.{page_of_lem, page_some, last_two}
use Rattle.writer.proofs.judging.last_not_encodable.Goals as goal

pub overflow_sub-n : goal.overflow_sub-n
overflow_sub-n c = omega (arith, page_some _ c.requires, c.lines-n.ensures.0)

pub column-requires : goal.column-requires
column-requires c = (rw c.lines-n.ensures.0 (page_of_lem _ c.requires), omega (arith, page_some _ c.requires, c.lines-n.ensures.0))

pub overflow_sub-n-2 : goal.overflow_sub-n-2
overflow_sub-n-2 c = omega (arith, page_some _ c.requires, c.lines-n.ensures.0)

pub column-requires-2 : goal.column-requires-2
column-requires-2 c = (rw c.lines-n.ensures.0 (page_of_lem _ c.requires), omega (arith, page_some _ c.requires, c.lines-n.ensures.0))

pub returns : goal.returns
returns c = c.enters_mixed.ensures ∙ last_two (rw c.lines-n.ensures.0 (page_of_lem _ c.requires)) (omega (arith, page_some _ c.requires, c.lines-n.ensures.0)) c.column.ensures c.column-2.ensures c.with_pels-before.ensures c.with_pels-last.ensures
