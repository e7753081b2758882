-- `frame_parse::kind` meets its contract: the flags, then the thirty bits behind them. Assumes nothing.
use mathlib.Core.Path.{◌≡◌, refl, sym, ◌∙◌}
use mathlib.Core.Bool.{Bool, true, false, cond, ◌&&◌}
use mathlib.Core.List.{List}
use Prim.Native.Nat.{ℕ}
use lib.Dec.{eqb}
use borrow.Author.Tests.{eq-eqb, ne_eqb}
use Rattle.octets.specs.Bits.{number_at}
use Rattle.frame.specs.declared.FrameKind.TheVariants.{SetUp, Data}
use Rattle.frame.specs.Layout.{kind_of}
use Rattle.frame_parse.proofs.kind.Goals as goal

by : (a b : Bool) (s : List ℕ) → eqb (number_at s 26 5) 0b00101 ≡ a → eqb (number_at s 31 30) 0x3FFFFFFF ≡ b → cond (a && b) SetUp Data ≡ kind_of s
unfolding kind_of
by a b s e f = rw (sym e, sym f) refl

other-flags : (s : List ℕ) → eqb (number_at s 26 5) 0b00101 ≡ false → Data ≡ kind_of s
other-flags s e = by false (eqb (number_at s 31 30) 0x3FFFFFFF) s e refl

pub returns-then-number-ne5 : goal.returns-then-number-ne5
returns-then-number-ne5 c = other-flags c.args.s.now (ne_eqb _ _ (λ z. c.if-number-ne5.true (c.number.ensures.0 ∙ z)))

pub returns-then-number-ne1073741823 : goal.returns-then-number-ne1073741823
returns-then-number-ne1073741823 c =
    by true false c.args.s.now (eq-eqb _ _ (sym c.number.ensures.0 ∙ c.if-number-ne5.false)) (ne_eqb _ _ (λ z. c.if-number-ne1073741823.true (c.number-2.ensures.0 ∙ z)))

pub returns : goal.returns
returns c =
    by true true c.args.s.now (eq-eqb _ _ (sym c.number.ensures.0 ∙ c.if-number-ne5.false)) (eq-eqb _ _ (sym c.number-2.ensures.0 ∙ c.if-number-ne1073741823.false))
