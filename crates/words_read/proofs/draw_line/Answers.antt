-- `words_read::draw_line` meets its contract: the pels of the words so far stand. Assumes nothing.
use borrow.Author.Rules.{rules}
use mathlib.Core.Path.{◌≡◌, sym, ap, ◌∙◌}
use mathlib.Core.List.{List}
use Prim.Native.Nat.{ℕ, ◌+◌, ◌-◌, ◌<◌}
use native.Mathlib.Omega.{arith}
use lib.IntN.{ℤ, pos, nat_abs}
use lib.ListN.{length, get_or, take}
use lib.Seq.{get_or-take, length-take-le}
use mir.Syntax.{w16}
use mir.Val.{SFits}
use Rattle.std.specs.Prelude.{Some}
use Rattle.words.specs.declared.Front.TheVariants.{Line as front_of}
use Rattle.words_read.specs.Scan.{front_cut}
use Rattle.words.specs.Lines.{front_line}
use Rattle.words_read.proofs.Lines.{counted_line, line_begun, line_room, line_next, line_drawn}
use Rattle.words_read.proofs.Taking.{size_same, inked_is}
use Rattle.words_read.proofs.draw_line.Goals as goal

-- the words of the line
line_words : (ws : List ℤ) {used : ℕ} → front_cut (front_line ws) ≡ Some (front_of used) → length (take (used - 1) ws) ≡ used - 1
line_words ws {used} e = let h = (counted_line ws e).inside in length-take-le (used - 1) ws (omega arith)

pub slice_bounds-word-items-length : goal.slice_bounds-word-items-length
slice_bounds-word-items-length c = sym (line_words c.args.words.now c.requires.0)

pub loop-word-init : goal.loop-word-init
loop-word-init c = line_begun c.args.words.now c.requires.1 (c.fill.ensures.after (λ y h. h))

pub draw_run-at-requires : goal.draw_run-at-requires
draw_run-at-requires c = let s : _ = c.args in
    let l : _ = c.loop-word in
    let h : l.word-index < (s.used - 1) = omega (arith, line_words s.words.now c.requires.0) in
    let r : _ = line_room c.requires.0 h l.invariant in
    let n : _ = size_same {z = get_or (take (s.used - 1) s.words.now) l.word-index (pos 0)} (search rules) in
    let e : _ = ap nat_abs (get_or-take (s.used - 1) s.words.now l.word-index (pos 0) h) in
    (omega (arith, r, n, e), omega (arith, r, n, e))

pub loop-word-preserved : goal.loop-word-preserved
loop-word-preserved c = let s : _ = c.args in
    let l : _ = c.loop-word in
    let z : ℤ = get_or (take (s.used - 1) s.words.now) l.word-index (pos 0) in
    let h : l.word-index < (s.used - 1) = omega (arith, line_words s.words.now c.requires.0) in
    let d : _ = c.draw_run-at in
    let w : SFits w16 z = search rules in
    let e : _ = get_or-take (s.used - 1) s.words.now l.word-index (pos 0) h in
    line_next c.requires.0 h l.invariant (d.ensures.0 ∙ ap (λ (k : ℕ). l.at + k) (size_same w ∙ ap nat_abs e)) (rw e at (inked_is _ z w d.ensures.1))

pub returns : goal.returns
returns c = let s : _ = c.args in line_drawn {n = s.used - 1} {i = c.loop-word.word-index} (omega (arith, line_words s.words.now c.requires.0)) c.loop-word.invariant
