-- `words_read::take_end` meets its contract. Assumes nothing.
use mathlib.Core.Path.{◌≡◌, refl, ap, ◌∙◌}
use borrow.Author.Tests.{eq-eqb, ne_eqb}
use Rattle.words_read.specs.declared.Line.{Line}
use Rattle.words_read.specs.declared.Colour.TheVariants.{White, Black}
use Rattle.words_read.specs.declared.WordEffect.TheVariants.{EndOfLine, EndOfPage}
use Rattle.words_read.specs.Scan.{ending}
use Rattle.words_read.proofs.take_end.Goals as goal
use Rattle.std.specs.Prelude.{Some, None}

at_start : (l : Line) → l.last ≡ None → Some EndOfPage ≡ ending l
unfolding ending
at_start l e = rw e refl

black_end : (l : Line) → l.last ≡ Some Black → Some EndOfLine ≡ ending l
unfolding ending
black_end l e = rw e refl

one_pel : (l : Line) → l.last ≡ Some White → l.pels ≡ 1 → Some EndOfLine ≡ ending l
unfolding ending
one_pel l e f = rw (e, eq-eqb l.pels 1 f) refl

white_end : (l : Line) → l.last ≡ Some White → (l.pels ≡ 1 → ⊥) → None ≡ ending l
unfolding ending
white_end l e f = rw (e, ne_eqb l.pels 1 f) refl

pub returns-in_default : goal.returns-in_default
returns-in_default c = at_start _ c.in_default.is

pub returns-in-Black : goal.returns-in-Black
returns-in-Black c = black_end _ (c.in-Some.is ∙ ap Some c.in-Black.is)

pub returns-then-line-eq1 : goal.returns-then-line-eq1
returns-then-line-eq1 c = one_pel _ (c.in-Some.is ∙ ap Some c.in-White.is) c.if-line-eq1.true

pub returns-else-line-eq1 : goal.returns-else-line-eq1
returns-else-line-eq1 c = white_end _ (c.in-Some.is ∙ ap Some c.in-White.is) c.if-line-eq1.false
