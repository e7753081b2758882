-- `reader::read_page` meets its contract: nothing is laid before all is judged. Assumes nothing.
use mathlib.Core.Path.{refl, sym, ap, ◌∙◌}
use Prim.Native.Nat.{◌≤◌, min}
use native.Mathlib.Omega.{arith}
use lib.ListN.{length}
use lib.Seq.{length-take-le}
use Rattle.bitmap.specs.Validity.{most_lines}
use Rattle.bitmap.proofs.Pels.{most_small}
use Rattle.reader_judge.specs.File.{most_octets}
use Rattle.refusal.proofs.Passed.{passed_on}
use Rattle.refusal.proofs.Replies.{refused_with}
use Rattle.reader_judge.proofs.Answers.{Known, known}
use Rattle.reader.proofs.Answers.{ready, not_read, too_short, delivers}
use Rattle.reader.proofs.read_page.Goals.{In_ok-page}
use Rattle.reader.proofs.read_page.Goals as goal
use Rattle.refusal.specs.Reply.{reply_of}

is-page : (c : In_ok-page) →
    let a : _ = c.args in Known a.c a.file.now c.in_ok-page.page
is-page c = known _ _ _ (sym c.judge_page.ensures ∙ ap reply_of c.in_ok-page.was)

few : (c : In_ok-page) → c.in_ok-page.page.lines ≤ most_lines
few c = (ready (min (length c.args.file.now) most_octets) refl (is-page c)).few

pub overflow_mul-room : goal.overflow_mul-room
overflow_mul-room c = omega (arith, few (goal.at.overflow_mul-room c).In_ok-page, most_small)

pub overflow_add-room : goal.overflow_add-room
overflow_add-room c = omega (arith, few (goal.at.overflow_add-room c).In_ok-page, most_small)

pub returns-then-room-out : goal.returns-then-room-out
returns-then-room-out c = too_short _ (is-page (goal.at.returns-then-room-out c).In_ok-page) c.if-room-out.true (refused_with c.at_record.ensures c.into.ensures)

pub slice_bounds-lay_page-end-3 : goal.slice_bounds-lay_page-end-3
slice_bounds-lay_page-end-3 c = sym (length-take-le _ _ (omega arith))

pub slice_bounds-lay_page-end-2 : goal.slice_bounds-lay_page-end-2
slice_bounds-lay_page-end-2 c = sym (length-take-le _ _ (omega (arith, c.octets_read-n.ensures)))

pub lay_page-requires : goal.lay_page-requires
lay_page-requires c = let r : _ = ready _ c.octets_read-n.ensures (is-page (goal.at.lay_page-requires c).In_ok-page) in record { size = (length-take-le _ _ (omega arith), r.few, r.octets); pairs = (r.even, rw r.columns r.room) }

pub returns-in_err-page : goal.returns-in_err-page
returns-in_err-page c = rw (passed_on _ c.from_residual.ensures.1) (not_read _ _ _ c.judge_page.ensures (ap reply_of c.in_err-page.was))

pub returns : goal.returns
returns c = delivers _ (is-page (goal.at.returns c).In_ok-page) (omega arith) (c.lay_page.ensures ∙ rw (ready _ c.octets_read-n.ensures (is-page (goal.at.returns c).In_ok-page)).columns refl)
