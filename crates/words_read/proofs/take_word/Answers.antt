-- `words_read::take_word` meets its contract. Assumes nothing.
use mathlib.Core.Path.{◌∙◌, ap}
use Prim.Native.Nat.{ℕ}
use native.Mathlib.Omega.{arith}
use Rattle.words_read.specs.declared.Colour.TheVariants.{White, Black}
use Rattle.words_read.specs.Scan.{going}
use Rattle.words_read.proofs.Taking.{is_zero, not_zero, is_below, size_is, size_most, next_end, next_black, next_white}
use Rattle.words_read.proofs.take_word.Goals as goal

pub returns-then-word-eq0 : goal.returns-then-word-eq0
returns-then-word-eq0 c = c.take_end.ensures ∙ next_end _ (is_zero c.ranges.word c.if-word-eq0.true)

pub take_run-requires : goal.take_run-requires
take_run-requires c = (omega arith, size_most c.ranges.word c.size.ensures)

pub take_run-requires-else-word-lt0 : goal.take_run-requires-else-word-lt0
take_run-requires-else-word-lt0 c = (omega arith, size_most c.ranges.word c.size-else-word-lt0.ensures)

pub returns-then-word-lt0 : goal.returns-then-word-lt0
returns-then-word-lt0 c = let s : _ = c in
    c.take_run.ensures ∙ ap (λ (n : ℕ). going s.args.line Black n) (size_is s.ranges.word c.size.ensures) ∙ next_black _ s.args.word (is_below s.ranges.word c.if-word-lt0.true)

pub returns-else-word-lt0 : goal.returns-else-word-lt0
returns-else-word-lt0 c = let s : _ = c in
    c.take_run-else-word-lt0.ensures ∙ ap (λ (n : ℕ). going s.args.line White n) (size_is s.ranges.word c.size-else-word-lt0.ensures)
    ∙ next_white _ s.args.word (not_zero s.args.word c.if-word-eq0.false) (is_below s.ranges.word c.if-word-lt0.false)
