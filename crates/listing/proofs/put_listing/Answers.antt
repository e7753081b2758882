-- `listing::put_listing` meets its contract: before each record the lines of those before it are written. Assumes nothing.
use mathlib.Core.Path.{sym, ap, ◌∙◌}
use Prim.Native.Nat.{ℕ, ◌+◌, ◌-◌, ◌≤◌}
use native.Mathlib.Omega.{arith}
use lib.ListN.{length}
use Rattle.basics.proofs.Writing.{left_room, left_rest, left_on, left_end}
use Rattle.reader_judge.specs.File.{most_octets}
use Rattle.reader_judge.proofs.Files.{judging_first, judging_small, judging_next, judging_less}
use Rattle.record_lines.specs.Lines.{record_line}
use Rattle.std.specs.Prelude.{Ok}
use Rattle.listing.specs.Listing.{most_file, list_from}
use Rattle.listing.proofs.Listed.{listed_first, listed_refused, listed_page, listed_on}
use Rattle.listing.proofs.put_listing.Goals as goal

-- a file that is listed has few octets
few : (n : ℕ) → n ≤ most_file → n ≤ most_octets
unfolding most_file most_octets
few n h = omega (arith, h)

pub loop-fault-init : goal.loop-fault-init
loop-fault-init c = rw c.first_progress-p.ensures (judging_first _ _, listed_first _ _ _ c.requires.0 c.requires.1)

pub put_refused-requires : goal.put_refused-requires
put_refused-requires c =
    let e : _ = listed_refused _ _ _ _ (sym c.record_next.ensures ∙ c.in-Err.is) c.at_record.ensures in
    left_rest (rw e at c.loop-fault.invariant.1)

pub returns-in-Err : goal.returns-in-Err
returns-in-Err c =
    let e : _ = listed_refused _ _ _ _ (sym c.record_next.ensures ∙ c.in-Err.is) c.at_record.ensures in
    left_end (rw e at c.loop-fault.invariant.1) c.put_refused.ensures

pub put_end-requires : goal.put_end-requires
put_end-requires c =
    let e : _ = listed_page _ _ _ _ (sym c.record_next.ensures ∙ c.in-Ok-Page.is ∙ ap Ok c.in-Ok-Page.field-0-is) in
    left_rest (rw e at c.loop-fault.invariant.1)

pub returns-in-Ok-Page : goal.returns-in-Ok-Page
returns-in-Ok-Page c =
    let e : _ = listed_page _ _ _ _ (sym c.record_next.ensures ∙ c.in-Ok-Page.is ∙ ap Ok c.in-Ok-Page.field-0-is) in
    left_end (rw e at c.loop-fault.invariant.1) c.put_end.ensures

pub put_record-requires : goal.put_record-requires
put_record-requires c =
    let l : _ = c.loop-fault in
    let a : _ = c.args in
    left_room l.invariant.1 (record_line l.k c.in-Ok-On.«record») (list_from a.checker.now.setting a.file.now (length a.file.now - (l.k + 1)) (l.k + 1) c.in-Ok-On.q) (listed_on _ _ _ _ (sym c.record_next.ensures ∙ c.in-Ok-On.is ∙ ap Ok c.in-Ok-On.field-0-is))

pub loop-fault-preserved : goal.loop-fault-preserved
loop-fault-preserved c =
    let l : _ = c.loop-fault in
    let n : _ = sym c.record_next.ensures ∙ c.in-Ok-On.is ∙ ap Ok c.in-Ok-On.field-0-is in
    (judging_next l.invariant.0 n, left_on l.invariant.1 _ (listed_on _ _ _ _ n) c.put_record.ensures)

pub record_next-requires : goal.record_next-requires
record_next-requires c = judging_small c.loop-fault.invariant.0 (few _ c.requires.0)

pub overflow_add-k : goal.overflow_add-k
overflow_add-k c = omega (arith, judging_small c.loop-fault.invariant.0 (few _ c.requires.0))

pub loop-fault-smaller : goal.loop-fault-smaller
loop-fault-smaller c = omega (arith, judging_less c.loop-fault.invariant.0 (sym c.record_next.ensures ∙ c.in-Ok-On.is ∙ ap Ok c.in-Ok-On.field-0-is))
