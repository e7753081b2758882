-- `pbm_reader::bitmap_of_pbm` meets its contract: the header, the rows and the room are judged before anything is written. Assumes nothing.
use mathlib.Core.Path.{◌≡◌, sym, ap, subst, ◌∙◌}
use mathlib.Core.Bool.{true}
use mathlib.Core.List.{List}
use Prim.Native.Nat.{ℕ, ◌+◌, ◌*◌, ◌≤◌}
use native.Mathlib.Omega.{arith}
use Rattle.basics.proofs.Placed.{placed_front}
use lib.ListN.{length, drop, length-drop}
use Rattle.bitmap.specs.Validity.{lines_allowed}
use Rattle.pbm.specs.declared.PbmFault.{PbmFault}
use Rattle.pbm.specs.declared.Sizes.{Sizes}
use Rattle.pbm.specs.Header.{pbm_header_of}
use Rattle.pbm.specs.Read.{HeaderIs}
use Rattle.refusal.proofs.Passed.{passed_on}
use Rattle.pbm.proofs.Answers.{few_lines, taken_fault, taken_width, taken_lines, taken_rows, taken_short, taken_page}
use Rattle.pbm_reader.proofs.bitmap_of_pbm.Goals.{After-header, Else-file-s, Else-not-lines_allowed}
use Rattle.pbm_reader.proofs.bitmap_of_pbm.Goals as goal
use Rattle.std.specs.Prelude.{Ok, Result}

-- what the header says
by-header : (c : After-header) {r : Result Sizes PbmFault} → c.header.result ≡ r → HeaderIs c.args.file.now r (pbm_header_of c.args.file.now)
by-header c e =
    let f : List ℕ = c.args.file.now in
    subst (λ (r : Result Sizes PbmFault). HeaderIs f r (pbm_header_of f)) e c.header.ensures

-- its lines are allowed
allowed : (c : Else-not-lines_allowed) → lines_allowed c.in_ok-s.s.lines ≡ true
allowed c = sym c.lines_allowed.ensures ∙ c.if-not-lines_allowed.false

-- the rows are there
enough : (c : Else-file-s) →
    216 * c.in_ok-s.s.lines ≤ length (drop c.in_ok-s.s.rows c.args.file.now)
enough c = simp length-drop c.if-file-s.false

pub returns-then-s-ne-PELS_PER_LINE : goal.returns-then-s-ne-PELS_PER_LINE
returns-then-s-ne-PELS_PER_LINE c = taken_width _ _ (by-header (goal.at.returns-then-s-ne-PELS_PER_LINE c).After-header c.in_ok-s.was).0 c.if-s-ne-PELS_PER_LINE.true

pub returns-then-not-lines_allowed : goal.returns-then-not-lines_allowed
returns-then-not-lines_allowed c = taken_lines _ _ (by-header (goal.at.returns-then-not-lines_allowed c).After-header c.in_ok-s.was).0 c.if-s-ne-PELS_PER_LINE.false (sym c.lines_allowed.ensures ∙ c.if-not-lines_allowed.true)

pub overflow_sub-file : goal.overflow_sub-file
overflow_sub-file c = (by-header (goal.at.overflow_sub-file c).After-header c.in_ok-s.was).1

pub overflow_mul-s : goal.overflow_mul-s
overflow_mul-s c = let h : _ = few_lines _ (allowed (goal.at.overflow_mul-s c).Else-not-lines_allowed) in omega arith

pub returns-then-file-s : goal.returns-then-file-s
returns-then-file-s c = taken_rows _ _ (by-header (goal.at.returns-then-file-s c).After-header c.in_ok-s.was).0 c.if-s-ne-PELS_PER_LINE.false (allowed (goal.at.returns-then-file-s c).Else-not-lines_allowed) (simp length-drop c.if-file-s.true)

pub overflow_mul-n : goal.overflow_mul-n
overflow_mul-n c = let h : _ = few_lines _ (allowed (goal.at.overflow_mul-n c).Else-not-lines_allowed) in omega arith

pub overflow_add-n : goal.overflow_add-n
overflow_add-n c = let h : _ = few_lines _ (allowed (goal.at.overflow_add-n c).Else-not-lines_allowed) in omega arith

pub returns-then-n-out : goal.returns-then-n-out
returns-then-n-out c = taken_short _ _ (by-header (goal.at.returns-then-n-out c).After-header c.in_ok-s.was).0 c.if-s-ne-PELS_PER_LINE.false (allowed (goal.at.returns-then-n-out c).Else-not-lines_allowed) (enough (goal.at.returns-then-n-out c).Else-file-s) c.if-n-out.true

pub put_page-requires : goal.put_page-requires
put_page-requires c = let h : _ = few_lines _ (allowed (goal.at.put_page-requires c).Else-not-lines_allowed) in
    let t : _ = (by-header (goal.at.put_page-requires c).After-header c.in_ok-s.was).1 in
    omega arith

pub returns-in_err-s : goal.returns-in_err-s
returns-in_err-s c = rw (passed_on _ c.from_residual.ensures.1) (taken_fault _ _ (by-header (goal.at.returns-in_err-s c).After-header c.in_err-s.was))

pub returns : goal.returns
returns c =
    ap (λ (o : List ℕ). (Ok (4 + 216 * c.in_ok-s.s.lines), o)) (c.put_page.ensures ∙ placed_front _ _)
    ∙ taken_page _ _ (by-header (goal.at.returns c).After-header c.in_ok-s.was).0 c.if-s-ne-PELS_PER_LINE.false
    (allowed (goal.at.returns c).Else-not-lines_allowed) (enough (goal.at.returns c).Else-file-s) c.if-n-out.false
