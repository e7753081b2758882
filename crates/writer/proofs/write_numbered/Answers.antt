-- `writer::write_numbered` meets its contract: judged, counted, and then written. Assumes nothing.
use mathlib.Core.Path.{◌≡◌, refl, sym, ◌∙◌}
use Prim.Native.Nat.{◌≤◌}
use native.Mathlib.Omega.{arith}
use lib.Seq.{length-take-le}
use Rattle.refusal.proofs.Passed.{passed_on}
use Rattle.writer.specs.Call.{most_columns, judge_page}
use Rattle.writer.proofs.Judges.{page_of_lem, fits, written_by, not_written, request_check, refused_first, too_short, file_written}
use Rattle.writer.proofs.write_numbered.Goals.{In_ok-writing}
use Rattle.writer.proofs.write_numbered.Goals as goal
use Rattle.std.specs.Prelude.{Ok}

by : (c : In_ok-writing) →
    let a : _ = c.args in (judge_page a.c a.settings a.rate a.bitmap.now ≡ Ok c.in_ok-writing.writing.settings) × (c.in_ok-writing.writing.most ≡ most_columns a.rate)
by c = written_by _ _ (sym c.judge.ensures.0 ∙ c.in_ok-writing.was)

few : (c : In_ok-writing) →
    c.in_ok-writing.writing.most ≤ 9600
few c = rw c.in_ok-writing.was at c.judge.ensures.1

pub file_octets-n-requires : goal.file_octets-n-requires
file_octets-n-requires c = let b : _ = (goal.at.file_octets-n-requires c).In_ok-writing in (page_of_lem _ (fits _ _ _ _ _ (by b).0).fine, few b)

pub returns-then-n-out : goal.returns-then-n-out
returns-then-n-out c = let b : _ = by (goal.at.returns-then-n-out c).In_ok-writing in too_short _ _ _ _ _ b.0 _ (c.file_octets-n.ensures ∙ rw b.1 refl) c.if-n-out.true (rw c.into.ensures refl)

pub slice_bounds-write_file-end : goal.slice_bounds-write_file-end
slice_bounds-write_file-end c = omega (arith, c.if-n-out.false)

pub slice_bounds-write_file-end-2 : goal.slice_bounds-write_file-end-2
slice_bounds-write_file-end-2 c = sym (length-take-le _ _ (omega (arith, c.if-n-out.false)))

pub write_file-requires : goal.write_file-requires
write_file-requires c =
    let b : _ = (goal.at.write_file-requires c).In_ok-writing in
    let f : _ = fits _ _ _ _ _ (by b).0 in
    record { allowed = (request_check _ _ f.request, page_of_lem _ f.fine, few b); size = length-take-le _ _ (omega (arith, c.if-n-out.false)) ∙ c.file_octets-n.ensures }

pub returns-in_err-writing : goal.returns-in_err-writing
returns-in_err-writing c = refused_first _ _ _ _ _ (not_written _ _ (sym c.judge.ensures.0 ∙ c.in_err-writing.was)) (rw (passed_on _ c.from_residual.ensures.1) refl)

pub returns : goal.returns
returns c = let b : _ = by (goal.at.returns c).In_ok-writing in file_written _ _ _ _ _ b.0 _ (c.file_octets-n.ensures ∙ rw b.1 refl) (omega (arith, c.if-n-out.false)) (c.write_file.ensures ∙ rw b.1 refl)
