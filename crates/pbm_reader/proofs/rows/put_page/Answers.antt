-- `pbm_reader::rows::put_page` meets its contract: the four octets of the sizes, and then row by row what is left is the rows that are left.
-- Assumes nothing.
use mathlib.Core.Path.{◌≡◌, refl, ap, ◌∙◌}
use mathlib.Core.List.{List, ◌++◌}
use Prim.Native.Nat.{ℕ, ◌+◌, ◌-◌, ◌*◌, ◌≤◌, ◌<◌}
use native.Mathlib.Nat.{add-zero}
use native.Mathlib.Omega.{arith}
use borrow.Author.Rules.{rules}
use lib.ListN.{length, take, drop, length-drop}
use lib.Seq.{length-take-le}
use Rattle.basics.specs.Placed.{placed}
use Rattle.basics.proofs.Placed.{placed_append}
use Rattle.basics.proofs.Writing.{ended, left_all, left_room, left_on, left_done}
use Rattle.bitmap.specs.Form.{sizes}
use Rattle.pbm.specs.Read.{row_in, rows_in}
use Rattle.pbm.proofs.Pages.{row_alone, length_row, length_rows, rows_first, rows_end}
use Rattle.pbm_reader.proofs.rows.put_page.Goals as goal

-- the row that is lent, and those that are left behind it
abbrev row : List ℕ → ℕ → ℕ → List ℕ
row file from r = take (from + 216 * r + 216 - (from + 216 * r)) (drop (from + 216 * r) file)

module _ (file : List ℕ) (from : ℕ) {r lines : ℕ} (l : r < lines) where
  long : from + 216 * lines ≤ length file → length (row file from r) ≡ 216
  long h =
      let e : from + 216 * r + 216 - (from + 216 * r) ≡ 216 = omega arith in
      rw e (length-take-le 216 (drop (from + 216 * r) file) (simp length-drop (omega arith)))

  next : rows_in (lines - r) (drop (from + 216 * r) file) ≡ row_in (row file from r) ++ rows_in (lines - (r + 1)) (drop (from + 216 * (r + 1)) file)
  next =
      let e : from + 216 * r + 216 - (from + 216 * r) ≡ 216 = omega arith in
      let n : from + 216 * (r + 1) ≡ from + 216 * r + 216 = omega arith in
      rw (e, n, row_alone (drop (from + 216 * r) file)) (rows_first file (from + 216 * r) l)

pub loop-r-init : goal.loop-r-init
loop-r-init c =
    let s : _ = c.args in
    let z : _ = c.put_sizes.auto.out in
    let l : _ = length_rows s.lines (drop s.from s.file.now) (simp length-drop (omega (arith, c.requires.0))) in
    let e : s.lines - 0 ≡ s.lines = omega arith in
    left_all _ (omega (arith, c.requires.1)) (rw (e, add-zero s.from) refl)

pub put_row-requires : goal.put_row-requires
put_row-requires c =
    let a : _ = c.args in
    let l : _ = c.loop-r in
    let n : _ = long a.file.now a.from c.loop-r-test.true c.requires.0 in
    let m : _ = length_row (row a.file.now a.from l.r) (omega arith) in
    let r : _ = left_room l.invariant (row_in (row a.file.now a.from l.r)) _ (next a.file.now a.from c.loop-r-test.true) in
    (n, omega arith)

pub loop-r-preserved : goal.loop-r-preserved
loop-r-preserved c = left_on c.loop-r.invariant _ (next c.args.file.now c.args.from c.loop-r-test.true) c.put_row.ensures

pub returns : goal.returns
returns c =
    let s : _ = c.args in
    let n : _ = length_rows s.lines (drop s.from s.file.now) (simp length-drop (omega (arith, c.requires.0))) in
    let w : _ = ended (left_done c.loop-r.invariant (rows_end _ c.loop-r-test.false)) (search rules) in
    w ∙ ap (placed 4 (rows_in s.lines (drop s.from s.file.now))) c.put_sizes.ensures
    ∙ placed_append 0 (sizes s.lines) (rows_in s.lines (drop s.from s.file.now)) s.out.now (omega (arith, c.requires.1))
