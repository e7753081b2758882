-- `words_read::draw` meets its contract: the page is begun, and a word goes on with it. Assumes nothing.
use borrow.Author.Rules.{rules}
use mathlib.Core.Path.{sym, subst, ◌∙◌}
use Prim.Native.Nat.{◌+◌}
use native.Mathlib.Omega.{arith}
use lib.IntN.{pos}
use lib.ListN.{get_or}
use mir.Syntax.{w16}
use mir.Val.{SFits}
use Rattle.words_read.specs.declared.Pen.{Pen}
use Rattle.words_read.proofs.Draws.{Begun, begun, begun_in, begun_room, begun_next, begun_end}
use Rattle.words_read.proofs.Taking.{size_same, moved_is, inked_is}
use Rattle.words_read.proofs.draw.Goals as goal

pub loop-i-init : goal.loop-i-init
loop-i-init c = let s : _ = c in begun s.args.words.now s.args.count _ s.requires.0 (omega arith) c.clear.ensures

pub draw_word-pen-requires : goal.draw_word-pen-requires
draw_word-pen-requires c = let l : _ = c.loop-i in
    let r : _ = begun_room l.invariant (sym c.page_ends.ensures ∙ c.if-page_ends.false) in
    let n : _ = size_same {z = get_or c.args.words.now l.i (pos 0)} (search rules) in
    (omega (arith, r.0, n), omega (arith, r.1, n), r.2)

pub loop-i-preserved : goal.loop-i-preserved
loop-i-preserved c = let l : _ = c.loop-i in
    let s : _ = c.args.words.now in
    let w : SFits w16 (get_or s l.i (pos 0)) = search rules in
    let e : _ = sym c.page_ends.ensures ∙ c.if-page_ends.false in
    subst (λ (q : Pen). Begun s (l.i + 1) q c.draw_word-pen.new.out) (sym (moved_is l.pen w c.draw_word-pen.ensures.0))
    (begun_next l.invariant e (inked_is _ (get_or s l.i (pos 0)) w c.draw_word-pen.ensures.1))

pub returns-then-page_ends : goal.returns-then-page_ends
returns-then-page_ends c = begun_end c.loop-i.invariant (sym c.page_ends.ensures ∙ c.if-page_ends.true)

-- the words do not end before the page
pub returns : goal.returns
returns c = let h : _ = begun_in c.loop-i.invariant in absurd (omega arith)
