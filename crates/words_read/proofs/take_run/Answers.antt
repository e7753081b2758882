-- `words_read::take_run` meets its contract. Assumes nothing.
use mathlib.Core.Path.{◌≡◌, refl, sym, ◌∙◌}
use mathlib.Core.Bool.{true, false}
use Prim.Native.Nat.{ℕ, ◌+◌, ◌<◌, ◌≤◌}
use native.Mathlib.Omega.{arith}
use borrow.Author.Tests.{le-leb, lt-leb}
use Rattle.words_read.specs.declared.Line.{Line}
use Rattle.words_read.specs.declared.Colour.{Colour}
use Rattle.words_read.specs.declared.WordEffect.TheVariants.{Run}
use Rattle.words_read.specs.Scan.{is_last, going}
use Rattle.words_read.specs.declared.Colour.TheVariants.{White, Black}
use Rattle.words_read.specs.contracts.ColourPartialEq.TheImpl.{eq-value}
use Rattle.words_read.proofs.take_run.Goals as goal
use Rattle.std.specs.Option.{option_eq}
use Rattle.std.specs.Prelude.{Option, Some, None}

same : (o : Option Colour) (c : Colour) → option_eq eq-value.it o (Some c) ≡ is_last o c
same None c = refl
same (Some White) White = refl
same (Some White) Black = refl
same (Some Black) White = refl
same (Some Black) Black = refl

same_colour : (l : Line) (c : Colour) (n : ℕ) → is_last l.last c ≡ true → None ≡ going l c n
unfolding going
same_colour l c n e = rw e refl

goes_on : (l : Line) (c : Colour) (n : ℕ) → is_last l.last c ≡ false → l.pels + n ≤ 1726 → Some (Run (record { pels = l.pels + n; last = Some c })) ≡ going l c n
unfolding going
goes_on l c n h k = rw (h, le-leb (l.pels + n) 1726 k) refl

too_long : (l : Line) (c : Colour) (n : ℕ) → is_last l.last c ≡ false → 1726 < l.pels + n → None ≡ going l c n
unfolding going
too_long l c n h k = rw (h, lt-leb (l.pels + n) 1726 k) refl

pub returns-then-eq : goal.returns-then-eq
returns-then-eq c = same_colour _ _ _ (sym (same c.args.line.last c.args.colour) ∙ sym c.eq.ensures ∙ c.if-eq.true)

pub returns-then-total-le-PELS_PER_LINE : goal.returns-then-total-le-PELS_PER_LINE
returns-then-total-le-PELS_PER_LINE c = goes_on _ _ _ (sym (same c.args.line.last c.args.colour) ∙ sym c.eq.ensures ∙ c.if-eq.false) (omega arith)

pub returns-else-total-le-PELS_PER_LINE : goal.returns-else-total-le-PELS_PER_LINE
returns-else-total-le-PELS_PER_LINE c = too_long _ _ _ (sym (same c.args.line.last c.args.colour) ∙ sym c.eq.ensures ∙ c.if-eq.false) (omega arith)
