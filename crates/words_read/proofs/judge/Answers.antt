-- `words_read::judge` meets its contract: the words left say the same as all. Assumes nothing.
use mathlib.Core.Path.{◌≡◌, sym, ap, ◌∙◌}
use native.Mathlib.Omega.{arith}
use borrow.Author.Rules.{rules}
use lib.IntN.{pos}
use lib.ListN.{get_or}
use Rattle.words_read.specs.declared.WordEffect.TheVariants.{Run}
use Rattle.words_read.specs.Scan.{next_of}
use Rattle.words_read.proofs.Scans.{scan_said, scan_broken, scan_page, scan_line_lem, scan_on, scan_none, run_small}
use Rattle.words_read.proofs.Taking.{next_is}
use Rattle.words_read.proofs.judge.Goals.{After-take_word, in-EndOfLine, in-Run}
use Rattle.words_read.proofs.judge.Goals as goal
use Rattle.std.specs.Prelude.{Some, None}

-- what the present word comes to
next : (c : After-take_word) →
    c.take_word.result ≡ next_of c.loop-i.line (get_or c.args.words.now c.loop-i.i (pos 0))
next c =
    let l : _ = c.loop-i in
    next_is l.line {z = get_or c.args.words.now l.i (pos 0)} (search rules) c.take_word.ensures

pub loop-i-preserved : goal.loop-i-preserved
loop-i-preserved c =
    let l : _ = c.loop-i in
    let s : _ = c.args.words.now in
    let n : _ = sym (next (goal.at.loop-i-preserved c).After-take_word) in
    elim c.match-branch-2.branch [
      | in-EndOfLine w ↦
          (scan_line_lem s l.i l.line l.lines (omega arith) (n ∙ (c.in_ok-take_word.was ∙ ap Some w.in-EndOfLine.is)) w.line-is w.lines-is ∙ l.invariant.0, rw w.line-is (omega arith), omega arith)
      | in-Run w ↦
          let e : next_of l.line (get_or s l.i (pos 0)) ≡ Some (Run c.match-branch-2.line) = n ∙ (c.in_ok-take_word.was ∙ ap Some w.in-Run.is) ∙ ap (λ m. Some (Run m)) (sym w.line-is) in
          (scan_on s l.i l.line l.lines (omega arith) e w.lines-is ∙ l.invariant.0, run_small l.line (get_or s l.i (pos 0)) e, omega arith)
    ]

pub returns-in_err-take_word : goal.returns-in_err-take_word
returns-in_err-take_word c = let l : _ = c.loop-i in
    let gone : c.from_residual.result ≡ None = grind arith in
    gone ∙ sym (scan_broken _ l.i _ _ (omega arith) (sym (next (goal.at.returns-in_err-take_word c).After-take_word) ∙ c.in_err-take_word.was)) ∙ l.invariant.0 ∙ sym (scan_said _)

pub returns-in-EndOfPage : goal.returns-in-EndOfPage
returns-in-EndOfPage c = let l : _ = c.loop-i in
    sym (scan_page _ l.i _ _ (omega arith) (sym (next (goal.at.returns-in-EndOfPage c).After-take_word) ∙ (c.in_ok-take_word.was ∙ ap Some c.in-EndOfPage.is))) ∙ l.invariant.0 ∙ sym (scan_said _)

pub returns : goal.returns
returns c = sym (scan_none _ c.loop-i.i _ _ (omega arith)) ∙ c.loop-i.invariant.0 ∙ sym (scan_said _)
