-- `words_read::judge_line` meets its contract: the words left say the same as all. Assumes nothing.
use borrow.Author.Rules.{rules}
use mathlib.Core.Path.{◌≡◌, sym, ◌∙◌, ap}
use native.Mathlib.Omega.{arith}
use lib.IntN.{pos}
use lib.ListN.{get_or}
use Rattle.std.specs.Prelude.{Some, None}
use Rattle.words_read.specs.Scan.{next_of}
use Rattle.words_read.proofs.Lines.{scan_line_said, line_wrong, line_page, line_end_lem, line_on, line_none}
use Rattle.words_read.proofs.Scans.{run_small}
use Rattle.words_read.proofs.Taking.{next_is}
use Rattle.words_read.proofs.judge_line.Goals.{After-take_word}
use Rattle.words_read.proofs.judge_line.Goals as goal

-- what the present word comes to
next : (c : After-take_word) →
    c.take_word.result ≡ next_of c.loop-i.line (get_or c.args.words.now c.loop-i.i (pos 0))
next c =
    let l : _ = c.loop-i in
    next_is l.line {z = get_or c.args.words.now l.i (pos 0)} (search rules) c.take_word.ensures

pub loop-i-preserved : goal.loop-i-preserved
loop-i-preserved c =
    let l : _ = c.loop-i in
    let s : _ = c.args.words.now in
    let e : _ = sym (next (goal.at.loop-i-preserved c).After-take_word) ∙ (c.in_ok-take_word.was ∙ ap Some c.in-Run.is) in
    (line_on s l.i l.line (omega arith) e ∙ l.invariant.0, run_small l.line (get_or s l.i (pos 0)) e)

pub returns-in_err-take_word : goal.returns-in_err-take_word
returns-in_err-take_word c = let l : _ = c.loop-i in
    let gone : c.from_residual.result ≡ None = grind arith in
    gone ∙ sym (line_wrong _ l.i _ (omega arith) (sym (next (goal.at.returns-in_err-take_word c).After-take_word) ∙ c.in_err-take_word.was)) ∙ l.invariant.0 ∙ sym (scan_line_said _)

pub returns-in-EndOfPage : goal.returns-in-EndOfPage
returns-in-EndOfPage c = let l : _ = c.loop-i in
    sym (line_page _ l.i _ (omega arith) (sym (next (goal.at.returns-in-EndOfPage c).After-take_word) ∙ (c.in_ok-take_word.was ∙ ap Some c.in-EndOfPage.is))) ∙ l.invariant.0 ∙ sym (scan_line_said _)

pub returns-in-EndOfLine : goal.returns-in-EndOfLine
returns-in-EndOfLine c = let l : _ = c.loop-i in
    sym (line_end_lem _ l.i _ (omega arith) (sym (next (goal.at.returns-in-EndOfLine c).After-take_word) ∙ (c.in_ok-take_word.was ∙ ap Some c.in-EndOfLine.is))) ∙ l.invariant.0 ∙ sym (scan_line_said _)

pub returns : goal.returns
returns c = sym (line_none _ c.loop-i.i _ (omega arith)) ∙ c.loop-i.invariant.0 ∙ sym (scan_line_said _)
