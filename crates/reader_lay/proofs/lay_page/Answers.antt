-- `reader_lay::lay_page` meets its contract: the page is cleared, and laid record by record. Assumes nothing.
use mathlib.Core.Path.{refl, ◌∙◌}
use Prim.Native.Nat.{◌/◌}
use native.Mathlib.Omega.{arith}
use Rattle.bitmap.proofs.White.{white_columns}
use Rattle.bitmap_lay.proofs.Lays.{room_start}
use Rattle.reader_lay.proofs.Lays.{before_first, before_room, before_next, before_end, cleared}
use Rattle.reader_lay.proofs.lay_page.Goals as goal

pub loop-k-init : goal.loop-k-init
loop-k-init c = rw c.blank_image-im.ensures (before_first _ _ (room_start _ (c.args.page.lines / 2) _ (omega (arith, c.requires.size.1)) c.requires.pairs.1 (cleared _ c.requires.pairs.0 c.clear.ensures)))

pub lay_record-im-requires : goal.lay_record-im-requires
lay_record-im-requires c =
    let i : _ = c.loop-k.invariant in (before_room i (omega arith), i.column, omega (arith, i.bits, c.requires.size), omega (arith, i.within, c.requires.size))

pub loop-k-preserved : goal.loop-k-preserved
loop-k-preserved c = let r : _ = c.lay_record-im in before_next c.loop-k.invariant (omega arith) r.ensures.0 r.ensures.1 r.auto.out

pub returns : goal.returns
returns c = let i : _ = c.loop-k.invariant in
    (before_end i (omega (arith, i.within))).laid (c.args.page.lines / 2) _ (omega (arith, c.requires.size.1)) refl (cleared _ c.requires.pairs.0 c.clear.ensures ∙ white_columns _)
