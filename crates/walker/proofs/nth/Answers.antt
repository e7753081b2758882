-- `walker::nth` meets its contract: a walk of more steps than the file has room for records ends where that one ends. Assumes nothing.
use mathlib.Core.Path.{refl, sym, ap, ◌∙◌}
use Prim.Native.Nat.{ℕ}
use native.Mathlib.Omega.{arith}
use Rattle.record_found.specs.Found.{step_at}
use Rattle.walker.proofs.Steps.{walk_ends}
use Rattle.walker.proofs.nth.Goals as goal

pub returns-else-k-most : goal.returns-else-k-most
returns-else-k-most c =
    let a : _ = c.args in
    c.walk-else-k-most.ensures ∙ ap (λ (n : ℕ). (step_at a.c a.file.now n).found) (sym (walk_ends a.c a.file.now _ a.k refl (omega arith)))
