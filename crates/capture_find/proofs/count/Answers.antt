-- `capture_find::count` meets its contract: the frames counted, and those from the place reached on, are all frames. Assumes nothing.
use mathlib.Core.Path.{ap}
use native.Mathlib.Omega.{arith}
use lib.ListN.{length}
use Rattle.capture.specs.Frames.{bit_of}
use Rattle.capture_find.proofs.Next.{Next, found, no_more, from_first}
use Rattle.capture_find.proofs.count.Goals.{In-Some}
use Rattle.capture_find.proofs.count.Goals as goal

pub loop-place-init : goal.loop-place-init
loop-place-init c =
    let b : _ = c.beginning-from in
    let a : _ = c.args in
    (b.ensures.1, omega (arith, b.ensures.0), omega arith, omega (arith, ap length (from_first a.checker.now.setting a.octets.now (bit_of b.result) b.ensures.0)))

next : (c : In-Some) → let a = c.args in Next a.checker.now.setting a.octets.now (bit_of c.loop-place.from) c.in-Some.place
next c = found _ _ _ _ _ c.next_frame.ensures c.in-Some.is

pub returns : goal.returns
returns c = let l : _ = c.loop-place in omega (arith, l.invariant.3, ap length (no_more _ _ _ _ c.next_frame.ensures c.in_default.is))

pub loop-place-preserved : goal.loop-place-preserved
loop-place-preserved c =
    let l : _ = c.loop-place in
    let a : _ = c.args in
    let n : _ = next (goal.at.loop-place-preserved c).In-Some in
    let e : _ = c.further-from.ensures.0 in
    (c.further-from.ensures.1, omega (arith, n.room, e), omega (arith, n.from, l.invariant.2, e), rw e (omega (arith, l.invariant.3, ap length n.frames)))

pub next_frame-requires : goal.next_frame-requires
next_frame-requires c = c.loop-place.invariant.0

pub further-from-requires : goal.further-from-requires
further-from-requires c = let n : _ = next (goal.at.further-from-requires c).In-Some in (n.bit, omega (arith, n.room), omega arith)

pub overflow_add-n : goal.overflow_add-n
overflow_add-n c = let n : _ = next (goal.at.overflow_add-n c).In-Some in let l : _ = c.loop-place in omega (arith, n.from, n.room, l.invariant.2)

pub loop-place-smaller : goal.loop-place-smaller
loop-place-smaller c = let n : _ = next (goal.at.loop-place-smaller c).In-Some in omega (arith, n.from, n.room, c.further-from.ensures.0)
