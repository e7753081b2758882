-- `reader_record::data_next` meets its contract: the sequence, then the count, then the chain. Assumes nothing.
use mathlib.Core.Path.{sym, ◌∙◌}
use Rattle.refusal.proofs.Passed.{passed_on}
use Rattle.reader_record.proofs.Judges.{wrong_sequence, no_image, image_frame}
use Rattle.reader_record.proofs.data_next.Goals as goal

pub returns-then-h-p : goal.returns-then-h-p
returns-then-h-p c = rw c.into.ensures (wrong_sequence _ _ _ c.if-h-p.true)

pub returns-then-h-eq0 : goal.returns-then-h-eq0
returns-then-h-eq0 c = rw c.with_data.ensures (no_image _ _ _ c.if-h-p.false c.if-h-eq0.true)

pub returns-in_err-grown : goal.returns-in_err-grown
returns-in_err-grown c = passed_on _ c.from_residual.ensures.1 ∙ image_frame _ _ _ c.if-h-p.false c.if-h-eq0.false (sym c.in_err-grown.was ∙ c.image_after.ensures.is)

pub returns : goal.returns
returns c = rw c.with_data-2.ensures (image_frame _ _ _ c.if-h-p.false c.if-h-eq0.false (sym c.in_ok-grown.was ∙ c.image_after.ensures.is))
