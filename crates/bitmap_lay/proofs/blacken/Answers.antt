-- `bitmap_lay::blacken` meets its contract: behind the first part of an octet the whole octets are set. Assumes nothing.
use mathlib.Core.Path.{refl}
use Prim.Native.Nat.{◌+◌, ◌-◌, ◌*◌, ◌/◌}
use mathlib.Core.List.{◌++◌}
use native.Mathlib.Omega.{arith}
use lib.ListN.{take, drop}
use Rattle.bitmap.specs.Laid.{Blacked}
use Rattle.bitmap_lay.proofs.Blacks.{blacked_more, blacked_filled, blacked_as}
use Rattle.bitmap_lay.proofs.blacken.Goals.{After-fill}
use Rattle.bitmap_lay.proofs.blacken.Goals as goal

-- all but the last part of an octet is set
whole : (c : After-fill) →
    let a : _ = c.args in
    let i : _ = a.a / 8 + 1 in
    let n : _ = a.b / 8 - i in
    let p : _ = c.blacken_octet-else-i-j.new.out in
    Blacked a.a (8 * (a.b / 8)) a.out.now (take i p ++ (c.fill.new.self ++ drop n (drop i p)))
whole c =
    let p : _ = c.blacken_octet-else-i-j in
    blacked_as (omega arith) (omega arith)
    (blacked_more (omega arith) (omega arith) p.ensures (blacked_as (omega arith) refl (blacked_filled _ _ _ _ (omega (arith, p.ensures.size)) (c.fill.ensures.after (λ y h. h)))))

pub returns-then-b-gt0 : goal.returns-then-b-gt0
returns-then-b-gt0 c = blacked_more (omega arith) (omega arith) (whole (goal.at.returns-then-b-gt0 c).After-fill) (blacked_as (omega arith) (omega arith) c.blacken_octet-then-b-gt0.ensures)

pub returns-else-b-gt0 : goal.returns-else-b-gt0
returns-else-b-gt0 c = blacked_as (omega arith) (omega arith) (whole (goal.at.returns-else-b-gt0 c).After-fill)
