-- `tool_lines::draw_lines` is safe and ends: each line uses some of the words. Assumes nothing.
use mathlib.Core.Path.{refl, sym, ap, ◌∙◌}
use Prim.Native.Nat.{◌+◌, ◌-◌, ◌≤◌, ◌<◌}
use native.Mathlib.Omega.{arith}
use lib.ListN.{length, length-drop}
use Rattle.words_read.proofs.Lines.{words_used}
use Rattle.tool_lines.proofs.draw_lines.Goals.{In-Ok-Line}
use Rattle.tool_lines.proofs.draw_lines.Goals as goal
use Rattle.refusal.specs.Reply.{reply_of}
use Rattle.std.specs.Prelude.{Ok}

-- the words that a line used are some of those left
used : (c : In-Ok-Line) → (0 < c.in-Ok-Line.n) × (c.loop-n.at + c.in-Ok-Line.n ≤ length c.args.words.now)
used c =
    let l : _ = c.loop-n in
    let s : _ = c.args.words.now in
    let u : _ = words_used _ (sym (ap reply_of (c.in-Ok-Line.is ∙ ap Ok c.in-Ok-Line.field-0-is)) ∙ c.draw_next.ensures) in
    (u.0, omega (arith, u.1, l.invariant, length-drop l.at s))

pub loop-n-init : goal.loop-n-init
loop-n-init c = (omega arith, omega arith, refl)

pub overflow_add-at : goal.overflow_add-at
overflow_add-at c = omega (arith, used (goal.at.overflow_add-at c).In-Ok-Line)

pub loop-n-smaller : goal.loop-n-smaller
loop-n-smaller c = omega (arith, used (goal.at.loop-n-smaller c).In-Ok-Line)

pub loop-n-preserved : goal.loop-n-preserved
loop-n-preserved c = (omega arith, (used (goal.at.loop-n-preserved c).In-Ok-Line).1, c.draw_next.auto.bitmap ∙ c.loop-n.invariant.2)

pub shape_of-bitmap-in-Ok-EndOfPage : goal.shape_of-bitmap-in-Ok-EndOfPage
shape_of-bitmap-in-Ok-EndOfPage c = c.draw_next.auto.bitmap ∙ c.loop-n.invariant.2

pub returns-in-Ok-EndOfPage : goal.returns-in-Ok-EndOfPage
returns-in-Ok-EndOfPage c = (omega arith, omega arith)

pub shape_of-bitmap-in-Ok-More : goal.shape_of-bitmap-in-Ok-More
shape_of-bitmap-in-Ok-More c = c.draw_next.auto.bitmap ∙ c.loop-n.invariant.2

pub returns-in-Ok-More : goal.returns-in-Ok-More
returns-in-Ok-More c = (omega arith, omega arith)

pub shape_of-bitmap-in-Err : goal.shape_of-bitmap-in-Err
shape_of-bitmap-in-Err c = c.draw_next.auto.bitmap ∙ c.loop-n.invariant.2

pub returns-in-Err : goal.returns-in-Err
returns-in-Err c = (omega arith, omega arith)
