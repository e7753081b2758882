-- `register::allowed` meets its contract: each return has the tests before it. Assumes nothing.
use mathlib.Core.Path.{◌≡◌}
use mathlib.Core.Bool.{◌&&◌, ◌||◌}
use Prim.Native.Nat.{ℕ, ◌%◌, ◌<◌}
use lib.Dec.{eqb, ltb}
use native.Mathlib.Omega.{arith}
use borrow.Author.Tests.{eq-eqb, ne_eqb, lt-ltb, le-ltb}
use Rattle.register.specs.Setting.{allowed_check}
use Rattle.register.proofs.allowed.Goals as goal

pub returns-then-c-eq0 : goal.returns-then-c-eq0
unfolding allowed_check
returns-then-c-eq0 c = simp (ne_eqb (c.args.c.generator % 2) 1 (omega arith))

pub returns-then-c-ge4096 : goal.returns-then-c-ge4096
unfolding allowed_check
returns-then-c-ge4096 c = let a : _ = c.args.c in simp (eq-eqb (a.generator % 2) 1 (omega arith), le-ltb _ _ c.if-c-ge4096.true)

pub returns-then-c-ge4096-2 : goal.returns-then-c-ge4096-2
unfolding allowed_check
returns-then-c-ge4096-2 c =
    let a : _ = c.args.c in
    simp (eq-eqb (a.generator % 2) 1 (omega arith), lt-ltb a.generator 4096 (omega arith), le-ltb _ _ c.if-c-ge4096-2.true)

pub returns-then-c-eq0-2 : goal.returns-then-c-eq0-2
unfolding allowed_check
returns-then-c-eq0-2 c =
    let a : _ = c.args.c in
    simp (eq-eqb (a.generator % 2) 1 (omega arith), lt-ltb a.generator 4096 (omega arith), lt-ltb a.start 4096 (omega arith), eq-eqb _ _ c.if-c-eq0-2.true)

-- the last test is the answer
last : (g st f : ℕ) → g % 2 ≡ 1 → g < 4096 → st < 4096 → (f ≡ 0 → ⊥) → eqb f 24 ≡ (eqb (g % 2) 1 && (ltb g 4096 && (ltb st 4096 && (eqb f 0 || eqb f 24))))
last g st f h k l n = rw (eq-eqb (g % 2) 1 h, lt-ltb g 4096 k, lt-ltb st 4096 l, ne_eqb f 0 n)

pub returns : goal.returns
unfolding allowed_check
returns c =
    let a : _ = c.args.c in
    last a.generator a.start a.first (omega arith) (omega arith) (omega arith) c.if-c-eq0-2.false
