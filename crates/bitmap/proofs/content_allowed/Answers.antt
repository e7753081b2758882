-- `bitmap::content_allowed` meets its contract. Assumes nothing.
use mathlib.Core.Path.{◌≡◌, refl, ◌∙◌}
use mathlib.Core.Bool.{false}
use mathlib.Core.List.{List}
use Prim.Native.Nat.{ℕ, ◌+◌, ◌*◌}
use lib.ListN.{length}
use borrow.Author.Tests.{eq-eqb, ne_eqb}
use Rattle.bitmap.specs.Form.{lines_of}
use Rattle.bitmap.specs.Validity.{trailing0, content_allowed}
use Rattle.bitmap.proofs.content_allowed.Goals as goal

fits : (bm : List ℕ) (n : ℕ) → n ≡ lines_of bm → length bm ≡ 4 + 216 * n → trailing0 bm n ≡ content_allowed bm
unfolding content_allowed
fits bm n e f = rw (← e, eq-eqb (length bm) (4 + 216 * n) f) refl

no-fit : (bm : List ℕ) (n : ℕ) → n ≡ lines_of bm → (length bm ≡ 4 + 216 * n → ⊥) → false ≡ content_allowed bm
unfolding content_allowed
no-fit bm n e f = rw (← e, ne_eqb (length bm) (4 + 216 * n) f) refl

pub returns-then-bitmap-n : goal.returns-then-bitmap-n
returns-then-bitmap-n c = c.trailing_0.ensures ∙ fits _ _ c.lines-n.ensures.0 c.if-bitmap-n.true

pub returns-else-bitmap-n : goal.returns-else-bitmap-n
returns-else-bitmap-n c = no-fit _ _ c.lines-n.ensures.0 c.if-bitmap-n.false
