-- `reader_judge::judge_page` meets its contract. Assumes nothing.
use mathlib.Core.Path.{sym, ◌∙◌}
use native.Mathlib.Omega.{arith}
use lib.ListN.{length-take}
use lib.Seq.{length-take-le}
use Rattle.register.proofs.Setting.{made_allowed}
use Rattle.reader_judge.proofs.Answers.{not_allowed, as_judged}
use Rattle.reader_judge.proofs.judge_page.Goals as goal

pub returns-in_default : goal.returns-in_default
returns-in_default c = rw c.into.ensures (not_allowed _ _ c.in_default.ensures)

pub slice_bounds-judge-end : goal.slice_bounds-judge-end
slice_bounds-judge-end c = sym (length-take-le _ _ (omega (arith, c.octets_read-n.ensures)))

pub judge-requires : goal.judge-requires
judge-requires c = omega (arith, c.octets_read-n.ensures, length-take c.octets_read-n.result c.args.file.now)

pub returns : goal.returns
returns c = (rw c.in-Some.ensures at c.judge.ensures) ∙ as_judged _ _ _ (made_allowed c.in-Some.checker c.in-Some.ensures) c.octets_read-n.ensures
