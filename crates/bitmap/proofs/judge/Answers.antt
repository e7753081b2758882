-- `bitmap::judge` meets its contract: the sizes are judged before the content. Assumes nothing.
use mathlib.Core.Path.{◌≡◌, refl, sym, ◌∙◌}
use mathlib.Core.Bool.{true, false}
use mathlib.Core.List.{List}
use Prim.Native.Nat.{ℕ}
use Rattle.refusal.specs.declared.Reason.TheVariants.{BitmapSizeNotAllowed, BitmapContentNotAllowed}
use Rattle.bitmap.specs.Validity.{size_allowed, content_allowed, validity_within, bitmap_validity}
use Rattle.bitmap.proofs.judge.Goals as goal
use Rattle.std.specs.Prelude.{Err}
use Rattle.refusal.specs.Reply.{valid}

size : (bm : List ℕ) → size_allowed bm ≡ false → Err BitmapSizeNotAllowed ≡ bitmap_validity bm
unfolding validity_within
size bm e = rw e refl

taken : (bm : List ℕ) → size_allowed bm ≡ true → content_allowed bm ≡ true → valid ≡ bitmap_validity bm
unfolding validity_within
taken bm e f = rw (e, f) refl

content : (bm : List ℕ) → size_allowed bm ≡ true → content_allowed bm ≡ false → Err BitmapContentNotAllowed ≡ bitmap_validity bm
unfolding validity_within
content bm e f = rw (e, f) refl

pub returns-then-not-size_allowed : goal.returns-then-not-size_allowed
returns-then-not-size_allowed c = size _ (sym c.size_allowed.ensures ∙ c.if-not-size_allowed.true)

pub returns-then-content_allowed : goal.returns-then-content_allowed
returns-then-content_allowed c = taken _ (sym c.size_allowed.ensures ∙ c.if-not-size_allowed.false) (sym c.content_allowed.ensures ∙ c.if-content_allowed.true)

pub returns-else-content_allowed : goal.returns-else-content_allowed
returns-else-content_allowed c = content _ (sym c.size_allowed.ensures ∙ c.if-not-size_allowed.false) (sym c.content_allowed.ensures ∙ c.if-content_allowed.false)
