-- `frame_build::put_check` meets its contract: by the order. Assumes nothing.
use mathlib.Core.Path.{◌≡◌, refl, ◌∙◌}
use mathlib.Core.List.{List}
use Prim.Native.Nat.{ℕ}
use Rattle.octets.specs.Bits.{field_bits, number_bits, put_bits}
use Rattle.register.specs.declared.BitOrder.{BitOrder}
use Rattle.register.specs.declared.BitOrder.TheVariants.{LowFirst, HighFirst}
use Rattle.frame.specs.Layout.{check_bits}
use Rattle.frame_build.proofs.put_check.Goals as goal

low : (o : BitOrder) (s : List ℕ) (v : ℕ) → o ≡ LowFirst → put_bits s 573 (field_bits 12 v) ≡ put_bits s 573 (check_bits o v)
unfolding check_bits
low o s v e = rw e refl

high : (o : BitOrder) (s : List ℕ) (v : ℕ) → o ≡ HighFirst → put_bits s 573 (number_bits 12 v) ≡ put_bits s 573 (check_bits o v)
unfolding check_bits
high o s v e = rw e refl

pub returns-in-LowFirst : goal.returns-in-LowFirst
returns-in-LowFirst c =
    let a : _ = c.args in
    c.put.ensures ∙ low a.order a.s.now a.check c.in-LowFirst.is

pub returns-in-HighFirst : goal.returns-in-HighFirst
returns-in-HighFirst c =
    let a : _ = c.args in
    c.put_number.ensures ∙ high a.order a.s.now a.check c.in-HighFirst.is
