-- `c_check::is_setting` meets its contract: the two tests. Assumes nothing.
use mathlib.Core.Path.{◌≡◌, refl}
use mathlib.Core.Bool.{false, ◌&&◌}
use Prim.Native.Nat.{ℕ, ◌≤◌, ◌<◌}
use native.Mathlib.Omega.{arith}
use lib.Dec.{ltb}
use lib.ListN.{get_or}
use borrow.Author.Tests.{lt-ltb, le-ltb}
use Rattle.c_check.proofs.is_setting.Goals as goal

first-fails : (x y : ℕ) → 2 ≤ x → false ≡ (ltb x 2 && ltb y 2)
first-fails x y h = rw (le-ltb x 2 h) refl

second-tells : (x y : ℕ) → x < 2 → ltb y 2 ≡ (ltb x 2 && ltb y 2)
second-tells x y h = rw (lt-ltb x 2 h) refl

pub returns-then-check-ge2 : goal.returns-then-check-ge2
returns-then-check-ge2 c = let x : _ = c.args.check.now in first-fails (get_or x 3 0) (get_or x 4 0) c.if-check-ge2.true

pub returns : goal.returns
returns c =
    let x : _ = c.args.check.now in
    let h : get_or x 3 0 < 2 = omega (arith, c.if-check-ge2.false) in
    second-tells (get_or x 3 0) (get_or x 4 0) h
