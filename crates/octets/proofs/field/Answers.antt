-- `octets::field` meets its contract: a field is that of its first eight bits and that of the others. Assumes nothing.
use mathlib.Core.Path.{◌≡◌, sym, ap, ap₂, ◌∙◌}
use Prim.Native.Nat.{ℕ, ◌+◌, ◌*◌, ◌-◌}
use native.Mathlib.Omega.{arith}
use Rattle.octets.specs.Bits.{field_at}
use Rattle.octets.proofs.Fields.{field_lt}
use Rattle.octets.proofs.Window.{field_window, field_split}
use Rattle.octets.proofs.field.Goals as goal

pub returns-then-n-le8 : goal.returns-then-n-le8
returns-then-n-le8 c =
    let a : _ = c.args in
    let e : _ = c.first_bits.ensures.0 ∙ field_window a.s.now _ a.at a.n c.octet_at.ensures (omega (arith, c.if-n-le8.true)) in
    (e, c.first_bits.ensures.1)

pub returns : goal.returns
returns c =
    let a : _ = c.args in
    let l : _ = c.if-n-le8.false in
    let n : 8 + (a.n - 8) ≡ a.n = omega (arith, l) in
    let x : _ = c.first_bits-2.ensures.0 ∙ field_window a.s.now _ a.at 8 c.octet_at-2.ensures (omega arith) in
    let y : _ = c.first_bits-3.ensures.0 ∙ field_window a.s.now _ (a.at + 8) (a.n - 8) c.octet_at-3.ensures (omega (arith, c.requires)) in
    let e : c.first_bits-2.result + 256 * c.first_bits-3.result ≡ field_at a.s.now a.at a.n =
    ap₂ (λ (u v : ℕ). u + 256 * v) x y ∙ sym (field_split a.s.now a.at 8 (a.n - 8)) ∙ ap (field_at a.s.now a.at) n in
    (e, rw e (field_lt a.s.now a.at a.n))
