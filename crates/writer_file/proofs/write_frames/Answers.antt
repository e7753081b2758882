-- `writer_file::write_frames` meets its contract: frame by frame, then the end record. Assumes nothing.
use mathlib.Core.Path.{refl, sym, ap, ◌∙◌}
use mathlib.Core.List.{◌++◌}
use Prim.Native.Nat.{ℕ, ◌*◌}
use native.Mathlib.Omega.{arith}
use Rattle.basics.proofs.Writing.{Left as ToWrite, left_rest, left_end}
use Rattle.bitmap.specs.Form.{columns_of}
use Rattle.units.proofs.Ahead.{page_columns}
use Rattle.writer_fill.specs.declared.FilledFrame.TheVariants.{Full, Finished}
use Rattle.writer_fill.specs.Filling.{Fills}
use Rattle.writer_fill.specs.Frames.{frames_of}
use Rattle.frame.specs.Layout.{end_record}
use Rattle.writer_file.specs.File.{data_records}
use Rattle.writer_file.proofs.Pages.{starts_less, writing_first, writing_few, room_full, room_last, writing_next, writing_last}
use Rattle.writer_file.proofs.write_frames.Goals.{In-Full, In-Finished, After-put_frame}
use Rattle.writer_file.proofs.write_frames.Goals as goal

full : (c : In-Full) → Fills c.args.most c.loop-p.head (columns_of c.args.bitmap.now) (Full c.in-Full.p) c.fill.new.«data»
full c = rw c.in-Full.is at c.fill.ensures

last : (c : In-Finished) → Fills c.args.most c.loop-p.head (columns_of c.args.bitmap.now) (Finished c.in-Finished.p) c.fill.new.«data»
last c = rw c.in-Finished.is at c.fill.ensures

-- behind the last frame
behind : (c : After-put_frame) → ToWrite (data_records c.args.checker.now.setting 1 (frames_of c.args.most (columns_of c.args.bitmap.now)) ++ end_record) c.args.out.now end_record c.put_frame.new.out
behind c = writing_last c.loop-p.invariant (rw c.in-Finished.is at c.fill.ensures) (rw c.header_for-in-Finished.ensures at c.put_frame.ensures)

pub overflow_mul-columns : goal.overflow_mul-columns
overflow_mul-columns c = omega (arith, c.lines-columns.ensures.1)

pub loop-p-init : goal.loop-p-init
loop-p-init c = rw c.first_start-head.ensures (writing_first _ _ _ _ c.requires.size)

pub fill-requires : goal.fill-requires
fill-requires c = let p : _ = c.requires.page in let l : _ = c.loop-p.invariant.left in (
  record { page = rw c.lines-columns.ensures.0 p.0; within = omega (arith, l.within, page_columns p.0, c.lines-columns.ensures.0); valid = l.valid; empty = refl },
  p.1,
)

pub put_data-requires : goal.put_data-requires
put_data-requires c = room_full c.loop-p.invariant (full (goal.at.put_data-requires c).In-Full)

pub overflow_add-i : goal.overflow_add-i
overflow_add-i c = let p : _ = c.requires.page.0 in omega (arith, writing_few c.loop-p.invariant, page_columns p, p.few)

pub next_start-head-requires : goal.next_start-head-requires
next_start-head-requires c = let p : _ = c.requires.page.0 in omega (arith, (full (goal.at.next_start-head-requires c).In-Full).within, page_columns p, p.few)

pub loop-p-smaller : goal.loop-p-smaller
loop-p-smaller c =
    rw c.next_start-head.ensures (starts_less _ (page_columns c.requires.page.0 ∙ ap (λ (k : ℕ). 863 * k) (sym c.lines-columns.ensures.0)) (full (goal.at.loop-p-smaller c).In-Full))

pub loop-p-preserved : goal.loop-p-preserved
loop-p-preserved c =
    rw c.next_start-head.ensures (writing_next c.loop-p.invariant (full (goal.at.loop-p-preserved c).In-Full) (rw c.header_for.ensures at c.put_data.ensures))

pub put_frame-requires : goal.put_frame-requires
put_frame-requires c = rw c.header_for-in-Finished.ensures (room_last c.loop-p.invariant (last (goal.at.put_frame-requires c).In-Finished))

pub put_end-requires : goal.put_end-requires
put_end-requires c = left_rest (behind (goal.at.put_end-requires c).After-put_frame)

pub returns-in-Finished : goal.returns-in-Finished
returns-in-Finished c = left_end (behind (goal.at.returns-in-Finished c).After-put_frame) c.put_end.ensures
