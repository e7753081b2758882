-- `packing::with_bit` meets its contract: every part is at most the octet or the weight. Assumes nothing.
use mathlib.Core.Path.{◌≡◌}
use Prim.Native.Nat.{ℕ, ◌+◌, ◌*◌, ◌/◌, ◌%◌, ◌^◌, ◌<◌, ◌≤◌}
use native.Mathlib.Nat.{div-mul-le_self, mod-lt}
use native.Mathlib.Omega.{arith}
use lib.Pow.{pow_pos, pow_mono}
use Rattle.octets.specs.Bits.{with_bit}
use Rattle.octets.proofs.Packed.{with_lt}
use Rattle.basics.proofs.Numbers.{times_bit}
use Rattle.packing.proofs.with_bit.Goals.{After-weight-h}
use Rattle.packing.proofs.with_bit.Goals as goal

record Known (x b w h : ℕ) : Type 0 where
  some : 0 < w
  some_high : 0 < h
  few : w ≤ 128
  high : x / h * h ≤ x
  bit : b * w ≤ w
  low : x % w < w

known : (x k b w h : ℕ) → k < 8 → b < 2 → w ≡ 2 ^ k → h ≡ 2 ^ (k + 1) → Known x b w h
known x k b w h l m e f = record {
  some = rw e (pow_pos k);
  some_high = rw f (pow_pos (k + 1));
  few = rw e (pow_mono {i = k} {j = 7} (omega arith));
  high = div-mul-le_self x h;
  bit = times_bit w b m;
  low = mod-lt x (rw e (pow_pos k));
}

from : (c : After-weight-h) → Known c.args.x c.args.b c.weight-w.result c.weight-h.result
from c = known _ c.args.k _ _ _ (omega arith) (omega arith) c.weight-w.ensures c.weight-h.ensures

is : (c : After-weight-h) → c.args.x / c.weight-h.result * c.weight-h.result + c.args.b * c.weight-w.result + c.args.x % c.weight-w.result ≡ with_bit c.args.x c.args.k c.args.b
unfolding with_bit
is c = rw (c.weight-h.ensures, c.weight-w.ensures)

pub returns : goal.returns
returns c = is (goal.at.returns c).After-weight-h

pub nonzero_div-result : goal.nonzero_div-result
nonzero_div-result c = (from (goal.at.nonzero_div-result c).After-weight-h).some_high

pub overflow_mul-result : goal.overflow_mul-result
overflow_mul-result c = omega (arith, from (goal.at.overflow_mul-result c).After-weight-h)

pub overflow_mul-result-2 : goal.overflow_mul-result-2
overflow_mul-result-2 c = omega (arith, from (goal.at.overflow_mul-result-2 c).After-weight-h)

pub overflow_add-result : goal.overflow_add-result
overflow_add-result c = omega (arith, from (goal.at.overflow_add-result c).After-weight-h)

pub nonzero_rem-result : goal.nonzero_rem-result
nonzero_rem-result c = (from (goal.at.nonzero_rem-result c).After-weight-h).some

pub overflow_add-result-2 : goal.overflow_add-result-2
overflow_add-result-2 c = omega (arith, from (goal.at.overflow_add-result-2 c).After-weight-h)

pub overflow_cast-result-2 : goal.overflow_cast-result-2
overflow_cast-result-2 c = omega (arith, is (goal.at.overflow_cast-result-2 c).After-weight-h, with_lt c.args.x c.args.k c.args.b (omega arith) (omega arith) (omega arith))
