-- `bitmap_find::first_change` meets its contract: the columns passed are of the state. Assumes nothing.
use native.Mathlib.Omega.{arith}
use Rattle.bitmap_find.proofs.Firsts.{octet_on, octet_end, along_all}
use Rattle.bitmap_find.proofs.first_change.Goals as goal

pub returns-then-r-to : goal.returns-then-r-to
returns-then-r-to c = let l : _ = c.loop-j in
    octet_end _ _ _ _ _ c.first-f.ensures _ l.invariant.0 l.invariant.2 c.if-f-lt8.true c.if-r-to.true

pub returns-else-r-to : goal.returns-else-r-to
returns-else-r-to c = let l : _ = c.loop-j in
    along_all _ (omega arith) c.if-r-to.false (octet_on _ _ _ _ _ c.first-f.ensures _ l.invariant.2 (omega arith))

pub loop-j-preserved : goal.loop-j-preserved
loop-j-preserved c = let l : _ = c.loop-j in
    (omega arith, omega arith, octet_on _ _ _ _ _ c.first-f.ensures _ l.invariant.2 (omega arith))
