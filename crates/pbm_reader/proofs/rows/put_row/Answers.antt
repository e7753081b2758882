-- `pbm_reader::rows::put_row` meets its contract: all but the last octet are copied, and then the last one. Assumes nothing.
use mathlib.Core.Path.{◌≡◌, refl, sym}
use mathlib.Core.List.{List, [], ◌∷◌}
use Prim.Native.Nat.{ℕ}
use native.Mathlib.Omega.{arith}
use lib.ListN.{length, get_or, take}
use lib.Seq.{length-take-le}
use Rattle.basics.proofs.Writing.{room_left, left_all, left_on, left_end}
use Rattle.pbm.specs.Read.{cleared, row_in}
use Rattle.pbm.proofs.Pages.{length_row}
use Rattle.pbm_reader.proofs.rows.put_row.Goals as goal

most : (row : List ℕ) → length row ≡ 216 → length (take 215 row) ≡ 215
most row e = length-take-le 215 row (omega arith)

pub slice_bounds-put_all-end : goal.slice_bounds-put_all-end
slice_bounds-put_all-end c = sym (most _ c.requires.0)

pub put_all-requires : goal.put_all-requires
put_all-requires c = omega (arith, most _ c.requires.0, c.requires.1)

pub put-requires : goal.put-requires
put-requires c = room_left 1 (omega (arith, most _ c.requires.0, c.requires.1)) c.put_all.ensures

pub returns : goal.returns
unfolding row_in
returns c =
    let n : _ = length_row c.args.row.now (omega (arith, c.requires.0)) in
    left_end (left_on (left_all c.args.out.now (omega (arith, c.requires.1)) refl) (cleared (get_or c.args.row.now 215 0) ∷ []) refl c.put_all.ensures) c.put.ensures
