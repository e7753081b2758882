-- `frame_parse::check_sent` meets its contract: by the order. Assumes nothing.
use mathlib.Core.Path.{◌≡◌, refl, ◌∙◌}
use mathlib.Core.List.{List}
use Prim.Native.Nat.{ℕ}
use Rattle.octets.specs.Bits.{field_at, number_at}
use Rattle.register.specs.declared.BitOrder.{BitOrder}
use Rattle.register.specs.declared.BitOrder.TheVariants.{LowFirst, HighFirst}
use Rattle.frame.specs.Layout.{check_sent}
use Rattle.frame_parse.proofs.check_sent.Goals as goal

low : (o : BitOrder) (s : List ℕ) → o ≡ LowFirst → field_at s 573 12 ≡ check_sent o s
unfolding check_sent
low o s e = rw e refl

high : (o : BitOrder) (s : List ℕ) → o ≡ HighFirst → number_at s 573 12 ≡ check_sent o s
unfolding check_sent
high o s e = rw e refl

pub returns-in-LowFirst : goal.returns-in-LowFirst
returns-in-LowFirst c =
    let a : _ = c.args in
    c.field.ensures.0 ∙ low a.order a.s.now c.in-LowFirst.is

pub returns-in-HighFirst : goal.returns-in-HighFirst
returns-in-HighFirst c =
    let a : _ = c.args in
    c.number.ensures.0 ∙ high a.order a.s.now c.in-HighFirst.is
