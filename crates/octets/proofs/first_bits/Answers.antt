-- `octets::first_bits` meets its contract. Assumes nothing.
use mathlib.Core.Path.{◌≡◌, sym, ap₂, ◌∙◌}
use mathlib.Core.List.{[], ◌∷◌}
use Prim.Native.Nat.{ℕ, ◌%◌}
use native.Mathlib.Nat.{lt_of_lt_of_le}
use native.Mathlib.Omega.{arith}
use lib.Pow.{pow_pos, pow_mono}
use Rattle.octets.specs.Bits.{field_at}
use Rattle.octets.proofs.Fields.{field_lt}
use Rattle.octets.proofs.Window.{octet_field}
use Rattle.octets.proofs.first_bits.Goals as goal

pub returns : goal.returns
returns c =
    let a : _ = c.args in
    let e : c.reverse.result % c.weight-w.result ≡ field_at (a.x ∷ []) 0 a.n =
    ap₂ (λ (x w : ℕ). x % w) c.reverse.ensures c.weight-w.ensures ∙ sym (octet_field a.x a.n (omega arith) (omega arith)) in
    let l : _ = field_lt (a.x ∷ []) 0 a.n in
    (e, rw e l, rw e (lt_of_lt_of_le l (pow_mono {j = 8} (omega arith))))

pub nonzero_rem-result : goal.nonzero_rem-result
nonzero_rem-result c = omega (arith, c.weight-w.ensures, pow_pos c.args.n)
