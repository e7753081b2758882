-- `pbm_reader::header::skip` meets its contract: what stands behind blanks and comments from here on is what stood behind them at first.
-- Assumes nothing.
use mathlib.Core.Path.{◌≡◌, sym, ap, ◌∙◌}
use mathlib.Core.Bool.{Bool}
use Prim.Native.Nat.{◌+◌}
use native.Mathlib.Omega.{arith}
use lib.ListN.{length, drop}
use Rattle.pbm.specs.Header.{skip_from}
use Rattle.pbm.proofs.Headers.{skip_on, skip_stop, skip_end}
use Rattle.pbm_reader.proofs.header.skip.Goals as goal

pub returns-then-not-pass : goal.returns-then-not-pass
returns-then-not-pass c = let l : _ = c.loop-i in
    (skip_stop _ _ _ c.loop-i-test.true (sym c.pass.ensures ∙ c.if-not-pass.true) ∙ l.invariant, omega arith)

pub loop-i-preserved : goal.loop-i-preserved
loop-i-preserved c = let l : _ = c.loop-i in
    ap (λ (b : Bool). skip_from b (drop (l.i + 1) c.args.file.now)) c.comment_behind-comment.ensures ∙ skip_on _ _ _ c.loop-i-test.true (sym c.pass.ensures ∙ c.if-not-pass.false) ∙ l.invariant

pub returns : goal.returns
returns c =
    let l : _ = c.loop-i in
    let f : _ = c.args.file.now in
    let e : l.i ≡ length f = omega arith in
    (skip_end l.comment f (length f) (omega arith) ∙ rw e at l.invariant, omega arith)
