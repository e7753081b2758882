-- `reader_progress::end_page` meets its contract: each test in its order. Assumes nothing.
use mathlib.Core.Path.{sym, ◌∙◌}
use Rattle.reader_progress.proofs.Ended.{ends_open, no_columns, no_pairs, too_many, whole_page}
use Rattle.reader_progress.proofs.end_page.Goals as goal

pub returns-then-open_in-ne0 : goal.returns-then-open_in-ne0
returns-then-open_in-ne0 c = rw c.into.ensures (ends_open _ _ (λ z. c.if-open_in-ne0.true (c.open_in.ensures.0 ∙ z)))

pub returns-then-position-ne0 : goal.returns-then-position-ne0
returns-then-position-ne0 c = rw c.into-then-position-ne0.ensures (no_pairs _ _ (sym c.open_in.ensures.0 ∙ c.if-open_in-ne0.false) c.if-position-ne0.true)

pub returns-then-position-eq0 : goal.returns-then-position-eq0
returns-then-position-eq0 c = rw c.into-then-position-eq0.ensures (no_columns _ _ (sym c.open_in.ensures.0 ∙ c.if-open_in-ne0.false) c.if-position-ne0.false c.if-position-eq0.true)

pub returns-then-not-lines_allowed : goal.returns-then-not-lines_allowed
returns-then-not-lines_allowed c = rw c.into-then-not-lines_allowed.ensures (too_many _ _ (sym c.open_in.ensures.0 ∙ c.if-open_in-ne0.false) c.if-position-ne0.false c.if-position-eq0.false (sym c.lines_allowed.ensures ∙ c.if-not-lines_allowed.true))

pub returns : goal.returns
returns c = rw c.columns_before.ensures (whole_page _ _ (sym c.open_in.ensures.0 ∙ c.if-open_in-ne0.false) c.if-position-ne0.false c.if-position-eq0.false (sym c.lines_allowed.ensures ∙ c.if-not-lines_allowed.false))
