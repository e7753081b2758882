-- `bitmap::lines_allowed` meets its contract. Assumes nothing.
use mathlib.Core.Path.{◌≡◌, refl}
use mathlib.Core.Bool.{false}
use Prim.Native.Nat.{ℕ, ◌%◌}
use lib.Dec.{leb}
use borrow.Author.Tests.{eq-eqb, ne_eqb}
use Rattle.bitmap.specs.Validity.{most_lines, lines_within, lines_allowed}
use Rattle.bitmap.proofs.lines_allowed.Goals as goal

no_lines : (n : ℕ) → n ≡ 0 → false ≡ lines_allowed n
unfolding lines_within
no_lines n e = rw (eq-eqb n 0 e) refl

even-lines : (n : ℕ) → (n ≡ 0 → ⊥) → n % 2 ≡ 0 → leb n most_lines ≡ lines_allowed n
unfolding lines_within
even-lines n h e = rw (ne_eqb n 0 h, eq-eqb (n % 2) 0 e) refl

odd-lines : (n : ℕ) → (n ≡ 0 → ⊥) → (n % 2 ≡ 0 → ⊥) → false ≡ lines_allowed n
unfolding lines_within
odd-lines n h e = rw (ne_eqb n 0 h, ne_eqb (n % 2) 0 e) refl

pub returns-then-lines-eq0 : goal.returns-then-lines-eq0
unfolding most_lines
returns-then-lines-eq0 c = no_lines _ c.if-lines-eq0.true

pub returns-then-lines-eq0-2 : goal.returns-then-lines-eq0-2
unfolding most_lines
returns-then-lines-eq0-2 c = even-lines _ c.if-lines-eq0.false c.if-lines-eq0-2.true

pub returns-else-lines-eq0-2 : goal.returns-else-lines-eq0-2
unfolding most_lines
returns-else-lines-eq0-2 c = odd-lines _ c.if-lines-eq0.false c.if-lines-eq0-2.false
