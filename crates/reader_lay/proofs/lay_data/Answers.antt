-- `reader_lay::lay_data` meets its contract: only an image frame lays columns. Assumes nothing.
use mathlib.Core.Path.{ap, ◌∙◌}
use mathlib.Core.Bool.{true, false}
use native.Mathlib.Omega.{arith}
use borrow.Author.Tests.{eq-eqb, ne_eqb}
use lib.ListN.{length}
use Rattle.frame.specs.declared.FrameKind.TheVariants.{Data}
use Rattle.records.specs.declared.Kind.TheVariants.{Frame}
use Rattle.records.proofs.Order.{due_room}
use Rattle.bitmap_lay.proofs.Lays.{laid_as, room_fewer}
use Rattle.chain.specs.Chain.{frame_columns}
use Rattle.reader_record.specs.LayingPass.{image_by}
use Rattle.reader_lay.proofs.Lays.{LayingEffect, data_does, nothing_laid}
use Rattle.reader_lay.proofs.lay_data.Goals.{Else-h-eq0}
use Rattle.reader_lay.proofs.lay_data.Goals as goal

-- what an image frame does
frame : (c : Else-h-eq0) →
    let a : _ = c.args in
    LayingEffect a.file.now a.k a.im (image_by a.im c.header-h.result c.sent_frame-s.result) (frame_columns a.im c.header-h.result c.sent_frame-s.result)
frame c =
    data_does _ _ _ _ _ false c.requires.due c.sent_frame-s.ensures c.header-h.ensures (ne_eqb _ _ c.if-h-eq0.false)

pub sent_frame-s-requires : goal.sent_frame-s-requires
sent_frame-s-requires c = omega (arith, due_room _ _ (Frame Data) c.requires.due)

pub returns-then-h-eq0 : goal.returns-then-h-eq0
returns-then-h-eq0 c = nothing_laid (data_does _ _ _ _ _ true c.requires.due c.sent_frame-s.ensures c.header-h.ensures (eq-eqb _ _ c.if-h-eq0.true))

pub lay_frame-requires : goal.lay_frame-requires
lay_frame-requires c = let p : _ = c.requires.room in
    (room_fewer _ p.0 (omega (arith, ap length (frame (goal.at.lay_frame-requires c).Else-h-eq0).laid)), p.1, p.2)

pub returns : goal.returns
returns c = let d : _ = frame (goal.at.returns c).Else-h-eq0 in
    (c.lay_frame.ensures.0 ∙ d.image, laid_as d.laid c.lay_frame.ensures.1)
