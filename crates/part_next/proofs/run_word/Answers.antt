-- `part_next::run_word` meets its contract: the word is the decoder's. Assumes nothing.
use mathlib.Core.Path.{ap, ◌∙◌}
use native.Mathlib.Omega.{arith}
use Rattle.field_length.specs.FieldLength.{length_after_closing}
use Rattle.diagram.proofs.Contexts.{longer_is, closed_is}
use Rattle.part_next.proofs.Words.{word_small, no_word, ones_word, closing_word}
use Rattle.part_next.proofs.run_word.Goals as goal

pub returns-then-v-ones : goal.returns-then-v-ones
returns-then-v-ones c =
    let b : _ = c in
    let n : _ = b.length-n.ensures in
    ones_word _ _ _ _ _ _ (omega arith) _ (omega arith) n.0 b.fetch-v.ensures.0 b.fetch-v.ensures.1 _ c.ones.ensures c.if-v-ones.true
    (longer_is _ _ _ _ _ _ c.with_length-l.ensures c.after_ones.ensures n.0)

pub returns : goal.returns
returns c =
    let b : _ = c in
    let n : _ = b.length-n.ensures in
    closing_word _ _ _ _ _ _ (omega arith) _ (omega arith) n.0 b.fetch-v.ensures.0 b.fetch-v.ensures.1 _ c.ones.ensures c.if-v-ones.false
    (closed_is _ _ _ _ _ _ _ c.with_length-l-2.ensures (c.after_closing.ensures ∙ ap (length_after_closing _ _ _) c.x_after-x.ensures) n.0)

pub returns-then-left-n : goal.returns-then-left-n
returns-then-left-n c = no_word _ _ _ _ _ _ _ c.length-n.ensures.0 (omega arith) (omega arith)

pub x_after-x-requires : goal.x_after-x-requires
x_after-x-requires c = let v : _ = word_small _ _ c.length-n.ensures.2 c.fetch-v.ensures.1 in omega arith
