-- `reader_lay::lay_frame` meets its contract: the column left open in the header's state, then those of the steps. Assumes nothing.
use mathlib.Core.Path.{◌≡◌, sym, ◌∙◌}
use Prim.Native.Nat.{◌+◌}
use native.Mathlib.Omega.{arith}
use lib.ListN.{length-map}
use lib.Seq.{length-take-le}
use Rattle.position.specs.Position.{columns_before}
use Rattle.position.proofs.Positions.{count_after, column_small}
use Rattle.bitmap_lay.proofs.Lays.{laid_none, laid_as, laid_more, room_more, room_small, room_fewer}
use Rattle.reader_lay.proofs.Lays.{unchained_image, unchained_laid, chained_image, chained_held, open_length, chained_laid, chained_length}
use Rattle.reader_lay.proofs.lay_frame.Goals.{After-lay_steps-next}
use Rattle.reader_lay.proofs.lay_frame.Goals as goal

pub image_after-requires : goal.image_after-requires
image_after-requires c = let p : _ = c.requires in (omega (arith, room_small p.0), p.2, omega arith)

pub lay_steps-next-requires : goal.lay_steps-next-requires
lay_steps-next-requires c =
    let n : _ = open_length c.image_after.ensures c.in-Ok.is _ _ c.open_in.ensures.0 c.entry.ensures in
    let m : _ = chained_length c.image_after.ensures c.in-Ok.is _ _ c.open_in.ensures.0 c.entry.ensures in
    (room_fewer _ c.requires.0 (omega arith), c.requires.1)

pub slice_bounds-entries-end : goal.slice_bounds-entries-end
slice_bounds-entries-end c = (chained_held c.image_after.ensures c.in-Ok.is).1

pub slice_bounds-lay_steps-end-in-Ok : goal.slice_bounds-lay_steps-end-in-Ok
slice_bounds-lay_steps-end-in-Ok c = sym (length-take-le _ _ (chained_held c.image_after.ensures c.in-Ok.is).1)

-- the columns before the steps of the frame: those so far, and the one that was left open
steps-at : (c : After-lay_steps-next) → columns_before c.lay_steps-next.result ≡ columns_before c.args.im.position + c.open_in.result
steps-at c =
    rw c.lay_steps-next.ensures.0 (count_after _ ∙ omega (arith, open_length c.image_after.ensures c.in-Ok.is _ _ c.open_in.ensures.0 c.entry.ensures))

pub lay_steps-requires : goal.lay_steps-requires
lay_steps-requires c =
    let n : _ = open_length c.image_after.ensures c.in-Ok.is _ _ c.open_in.ensures.0 c.entry.ensures in
    let m : _ = chained_length c.image_after.ensures c.in-Ok.is _ _ c.open_in.ensures.0 c.entry.ensures in
    (room_more _ _ c.requires.0 c.lay_steps-next.ensures.1 (simp length-map (omega (arith, steps-at (goal.at.lay_steps-requires c).After-lay_steps-next))) (simp length-map (omega arith)), rw c.lay_steps-next.ensures.0 (column_small _))

pub returns-in-Err : goal.returns-in-Err
returns-in-Err c = let k : _ = c.image_after.ensures in let e : _ = c.in-Err.is in (unchained_image k e, laid_as (unchained_laid k e) (laid_none _))

pub returns-in-Ok : goal.returns-in-Ok
returns-in-Ok c =
    let n : _ = open_length c.image_after.ensures c.in-Ok.is _ _ c.open_in.ensures.0 c.entry.ensures in (
      chained_image c.image_after.ensures c.in-Ok.is,
      laid_as (chained_laid c.image_after.ensures c.in-Ok.is _ _ c.open_in.ensures.0 c.entry.ensures)
          (laid_more _ (simp length-map (omega (arith, steps-at (goal.at.returns-in-Ok c).After-lay_steps-next))) c.lay_steps-next.ensures.1 c.lay_steps.ensures.1),
    )
