-- `bitmap::trailing_0` meets its contract: the lines left to look at say the same as all. Assumes nothing.
use Rattle.std.proofs.Common.{◌≡◌, refl, sym, ap, ◌∙◌, true, false, List, ℕ, zero, suc, ◌+◌, ◌-◌, ◌*◌, ◌%◌, ◌<◌, get_or, arith}
use borrow.Author.Tests.{eq-eqb, ne_eqb}
use Rattle.bitmap.specs.Validity.{trailing0}
use Rattle.bitmap.proofs.trailing_0.Goals as goal

clear_line : (bm : List ℕ) (n : ℕ) → 0 < n → get_or bm (219 + 216 * (n - 1)) 0 % 4 ≡ 0 → trailing0 bm (n - 1) ≡ trailing0 bm n
unfolding trailing0
clear_line bm zero h e = absurd (omega arith)
clear_line bm (suc n) h e =
    let z : suc n - 1 ≡ n = omega arith in
    let f : get_or bm (219 + 216 * n) 0 % 4 ≡ 0 = rw z at e in
    rw (z, eq-eqb (get_or bm (219 + 216 * n) 0 % 4) 0 f) refl

set_line : (bm : List ℕ) (n : ℕ) → 0 < n → (get_or bm (219 + 216 * (n - 1)) 0 % 4 ≡ 0 → ⊥) → false ≡ trailing0 bm n
unfolding trailing0
set_line bm zero h e = absurd (omega arith)
set_line bm (suc n) h e =
    let z : suc n - 1 ≡ n = omega arith in
    let f : get_or bm (219 + 216 * n) 0 % 4 ≡ 0 → ⊥ = rw z at e in
    rw (ne_eqb (get_or bm (219 + 216 * n) 0 % 4) 0 f) refl

no_line : (bm : List ℕ) (n : ℕ) → n ≡ 0 → true ≡ trailing0 bm n
unfolding trailing0
no_line bm n e = rw e refl

pub loop-n-init : goal.loop-n-init
loop-n-init c = refl

pub returns-then-octet-ne0 : goal.returns-then-octet-ne0
returns-then-octet-ne0 c = set_line _ _ (omega arith) (λ e. c.if-octet-ne0.true (ap (λ (y : ℕ). y % 4) c.octet.ensures ∙ e)) ∙ c.loop-n.invariant

pub loop-n-preserved : goal.loop-n-preserved
loop-n-preserved c = clear_line _ _ (omega arith) (ap (λ (y : ℕ). y % 4) (sym c.octet.ensures) ∙ c.if-octet-ne0.false) ∙ c.loop-n.invariant

pub returns : goal.returns
returns c = no_line _ _ (omega arith) ∙ c.loop-n.invariant
