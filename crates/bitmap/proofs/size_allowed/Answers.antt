-- `bitmap::size_allowed` meets its contract. Assumes nothing.
use mathlib.Core.Path.{◌≡◌, refl, sym, ap, ◌∙◌}
use mathlib.Core.Bool.{false}
use mathlib.Core.List.{List}
use Prim.Native.Nat.{ℕ, ◌+◌, ◌*◌, ◌<◌, ◌≤◌}
use lib.ListN.{length, get_or}
use borrow.Author.Tests.{lt-ltb, le-ltb, eq-eqb, ne_eqb}
use Rattle.bitmap.specs.Form.{lines_of}
use Rattle.bitmap.specs.Validity.{lines_allowed, size_within, size_allowed}
use Rattle.bitmap.proofs.size_allowed.Goals as goal

short : (bm : List ℕ) → length bm < 4 → false ≡ size_allowed bm
unfolding size_within
short bm h = rw (lt-ltb (length bm) 4 h) refl

wide : (bm : List ℕ) → 4 ≤ length bm → get_or bm 0 0 + 256 * get_or bm 1 0 ≡ 1726 → lines_allowed (lines_of bm) ≡ size_allowed bm
unfolding size_within
wide bm h e = rw (le-ltb (length bm) 4 h, eq-eqb (get_or bm 0 0 + 256 * get_or bm 1 0) 1726 e) refl

other_width : (bm : List ℕ) → 4 ≤ length bm → (get_or bm 0 0 + 256 * get_or bm 1 0 ≡ 1726 → ⊥) → false ≡ size_allowed bm
unfolding size_within
other_width bm h e = rw (le-ltb (length bm) 4 h, ne_eqb (get_or bm 0 0 + 256 * get_or bm 1 0) 1726 e) refl

pub returns-then-bitmap-lt-OCTETS_IN_FRONT : goal.returns-then-bitmap-lt-OCTETS_IN_FRONT
returns-then-bitmap-lt-OCTETS_IN_FRONT c = short _ c.if-bitmap-lt-OCTETS_IN_FRONT.true

pub returns-then-two_octets-eq-PELS_PER_LINE : goal.returns-then-two_octets-eq-PELS_PER_LINE
returns-then-two_octets-eq-PELS_PER_LINE c = c.lines_allowed.ensures ∙ ap lines_allowed c.lines.ensures.0
    ∙ wide _ c.if-bitmap-lt-OCTETS_IN_FRONT.false (sym c.two_octets.ensures.0 ∙ c.if-two_octets-eq-PELS_PER_LINE.true)

pub returns-else-two_octets-eq-PELS_PER_LINE : goal.returns-else-two_octets-eq-PELS_PER_LINE
returns-else-two_octets-eq-PELS_PER_LINE c = other_width _ c.if-bitmap-lt-OCTETS_IN_FRONT.false (λ e. c.if-two_octets-eq-PELS_PER_LINE.false (c.two_octets.ensures.0 ∙ e))
