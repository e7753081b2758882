-- `writer_file::count_frames` meets its contract: frame by frame. Assumes nothing.
use mathlib.Core.Path.{refl, sym, ap, ◌∙◌}
use Prim.Native.Nat.{ℕ, ◌*◌}
use native.Mathlib.Omega.{arith}
use Rattle.bitmap.specs.Form.{columns_of}
use Rattle.units.proofs.Ahead.{page_columns}
use Rattle.writer_fill.specs.declared.FilledFrame.TheVariants.{Full, Finished}
use Rattle.writer_fill.specs.Filling.{Fills}
use Rattle.writer_file.proofs.Pages.{counting_first, counted_few, starts_less, counting_next, counting_last}
use Rattle.writer_file.proofs.count_frames.Goals.{In-Full, In-Finished}
use Rattle.writer_file.proofs.count_frames.Goals as goal

full : (c : In-Full) → Fills c.args.most c.loop-p.head (columns_of c.args.bitmap.now) (Full c.in-Full.p) c.fill.new.«data»
full c = rw c.in-Full.is at c.fill.ensures

last : (c : In-Finished) → Fills c.args.most c.loop-p.head (columns_of c.args.bitmap.now) (Finished c.in-Finished.p) c.fill.new.«data»
last c = rw c.in-Finished.is at c.fill.ensures

pub overflow_mul-columns : goal.overflow_mul-columns
overflow_mul-columns c = omega (arith, c.lines-columns.ensures.1)

pub loop-p-init : goal.loop-p-init
loop-p-init c = rw c.first_start-head.ensures (counting_first _ _)

pub fill-requires : goal.fill-requires
fill-requires c = let p : _ = c.requires in let i : _ = c.loop-p.invariant in (
  record { page = rw c.lines-columns.ensures.0 p.0; within = omega (arith, i.left.within, page_columns p.0, c.lines-columns.ensures.0); valid = i.left.valid; empty = refl },
  p.1,
)

pub overflow_add-n : goal.overflow_add-n
overflow_add-n c = omega (arith, counted_few c.loop-p.invariant, page_columns c.requires.0, c.requires.0.few)

pub next_start-head-requires : goal.next_start-head-requires
next_start-head-requires c = omega (arith, (full (goal.at.next_start-head-requires c).In-Full).within, page_columns c.requires.0, c.requires.0.few)

pub loop-p-smaller : goal.loop-p-smaller
loop-p-smaller c = rw c.next_start-head.ensures (starts_less _ (page_columns c.requires.0 ∙ ap (λ (k : ℕ). 863 * k) (sym c.lines-columns.ensures.0)) (full (goal.at.loop-p-smaller c).In-Full))

pub loop-p-preserved : goal.loop-p-preserved
loop-p-preserved c = rw c.next_start-head.ensures (counting_next c.loop-p.invariant (full (goal.at.loop-p-preserved c).In-Full))

pub with_frame-requires : goal.with_frame-requires
with_frame-requires c = omega (arith, counted_few c.loop-p.invariant, page_columns c.requires.0, c.requires.0.few)

pub returns-in-Finished : goal.returns-in-Finished
returns-in-Finished c =
    let d : _ = counting_last c.loop-p.invariant (last (goal.at.returns-in-Finished c).In-Finished) in
    (c.with_frame.ensures ∙ d.0, omega (arith, c.with_frame.ensures, d.1, page_columns c.requires.0, c.requires.0.few))
