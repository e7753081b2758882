-- `pbm_writer::pbm_of_bitmap` meets its contract: the bitmap and the room are judged before anything is written. Assumes nothing.
use mathlib.Core.Path.{◌≡◌, refl, sym, ap, ap₂, ◌∙◌}
use mathlib.Core.List.{List, flatten}
use Prim.Native.Nat.{ℕ, ◌+◌, ◌*◌}
use native.Mathlib.Omega.{arith}
use borrow.Author.Rules.{rules}
use lib.ListN.{length, drop}
use Rattle.basics.specs.Cursor.{HasRoom, Writes}
use Rattle.basics.specs.declared.Cursor.{Cursor}
use Rattle.basics.proofs.Placed.{placed_front}
use Rattle.basics.proofs.Writing.{ended, Left, left_all, left_rest, left_on, left_end}
use Rattle.refusal.proofs.Passed.{passed_on}
use Rattle.refusal.specs.Reply.{gives}
use Rattle.printing.specs.declared.Times.{Times}
use Rattle.printing.specs.Printing.{times_of, printed_rows}
use Rattle.printing.proofs.Answers.{saved_invalid, saved_short, saved_whole}
use Rattle.pbm.specs.Written.{head_text, pbm_of}
use Rattle.pbm.proofs.Pages.{File, file_of_lem}
use Rattle.pbm_writer.proofs.pbm_of_bitmap.Goals.{After-lines-lines}
use Rattle.pbm_writer.proofs.pbm_of_bitmap.Goals as goal

-- the file to write
told : (c : After-lines-lines) → File c.args.bitmap.now c.args.times c.lines-lines.result
told c = file_of_lem _ _ (sym c.judge.ensures ∙ c.in_ok-judge.was) c.lines-lines.ensures.0

-- the head is written, and the rows are left
headed : {bm : List ℕ} {times : Times} {n rows : ℕ} {o p : Cursor ℕ} → File bm times n → rows ≡ times_of times * n → HasRoom (length (pbm_of times bm)) o → Writes (head_text rows) o p →
    Left (pbm_of times bm) o (flatten (printed_rows (times_of times) n (drop 4 bm))) p
headed {o = o} f e h w = left_on (left_all o h (f.parts ∙ rw e refl)) _ refl w

head-length : {m n : ℕ} → m ≡ n → length (head_text m) ≡ length (head_text n)
head-length e = ap (λ (k : ℕ). length (head_text k)) e

pub returns-in_err-judge : goal.returns-in_err-judge
returns-in_err-judge c = rw (passed_on _ c.from_residual.ensures.1) (saved_invalid _ _ _ (sym c.judge.ensures ∙ c.in_err-judge.was))

pub invariant_of-page : goal.invariant_of-page
invariant_of-page c = let f : _ = told (goal.at.invariant_of-page c).After-lines-lines in record { has_lines = f.page.rows; is_no_longer = omega (arith, f.page.few) }

pub put_head-requires : goal.put_head-requires
put_head-requires c = let f : _ = told (goal.at.put_head-requires c).After-lines-lines in let e : _ = head-length c.rows-rows.ensures in omega (arith, f.head)

pub overflow_add-n : goal.overflow_add-n
overflow_add-n c =
    let f : _ = told (goal.at.overflow_add-n c).After-lines-lines in
    let e : _ = head-length c.rows-rows.ensures in
    omega (arith, f.head, f.page.few, c.put_head.ensures.at, c.rows-rows.ensures)

pub returns-then-n-out : goal.returns-then-n-out
returns-then-n-out c =
    let f : _ = told (goal.at.returns-then-n-out c).After-lines-lines in
    let e : _ = head-length c.rows-rows.ensures in
    saved_short _ _ _ (sym c.judge.ensures ∙ c.in_ok-judge.was) (omega (arith, f.size, c.put_head.ensures.at, c.rows-rows.ensures, c.if-n-out.true))

pub put_head-requires-2 : goal.put_head-requires-2
put_head-requires-2 c = let s : _ = c.put_head.ensures.at in omega arith

pub returns : goal.returns
returns c =
    let a : _ = c.args in
    let f : _ = told (goal.at.returns c).After-lines-lines in
    let e : _ = head-length c.rows-rows.ensures in
    let n : c.put_head.new.out.at + 216 * c.rows-rows.result ≡ length (pbm_of a.times a.bitmap.now) = omega (arith, f.size, c.put_head.ensures.at, c.rows-rows.ensures) in
    let w : _ = headed f c.rows-rows.ensures (omega (arith, n, c.if-n-out.false)) c.put_head-2.ensures in
    ap₂ (λ (n : ℕ) (o : List ℕ). (gives n, o)) n (ended (left_end w c.put_rows.ensures) (search rules) ∙ placed_front _ _)
    ∙ saved_whole _ _ _ (sym c.judge.ensures ∙ c.in_ok-judge.was) (omega (arith, n, c.if-n-out.false))

pub put_rows-requires : goal.put_rows-requires
put_rows-requires c =
    let f : _ = told (goal.at.put_rows-requires c).After-lines-lines in
    let e : _ = head-length c.rows-rows.ensures in
    left_rest (headed f c.rows-rows.ensures (omega (arith, f.size, c.put_head.ensures.at, c.rows-rows.ensures, c.if-n-out.false)) c.put_head-2.ensures)
