-- `octets::octet_at` meets its contract: two octets hold the eight bits. Assumes nothing.
use mathlib.Core.Path.{◌≡◌, ap, ◌∙◌}
use mathlib.Core.List.{[], ◌∷◌}
use Prim.Native.Nat.{ℕ, ◌+◌, ◌-◌, ◌*◌, ◌/◌, ◌%◌, ◌^◌, ◌<◌}
use native.Mathlib.Omega.{arith}
use lib.ListN.{get_or, get_or-eq_default}
use Rattle.octets.specs.Bits.{bits_from}
use Rattle.octets.proofs.Window.{window, number_bits_lem}
use Rattle.octets.proofs.octet_at.Goals.{After-shared_slice_known-1, Joined-i-s, then-i-s, else-i-s}
use Rattle.octets.proofs.octet_at.Goals as goal

-- the two octets are small
small : (c : After-shared_slice_known-1) → let a = c.args in (get_or a.s.now (a.at / 8) 0 < 256) × (get_or a.s.now (a.at / 8 + 1) 0 < 256)
small c = let g : _ = c.shared_slice_known-1.given in (omega (arith, g (c.args.at / 8)), omega (arith, g (c.args.at / 8 + 1)))

both : (c : Joined-i-s) → let a = c.args in c.if-i-s.both ≡ get_or a.s.now (a.at / 8) 0 * 256 + get_or a.s.now (a.at / 8 + 1) 0
both c =
    let a : _ = c.args in
    elim c.if-i-s.branch [ then-i-s w ↦ w.both-is | else-i-s w ↦ omega (arith, w.both-is, get_or-eq_default a.s.now 0 w.if-i-s.false) ]

pub returns : goal.returns
returns c =
    let a : _ = c.args in
    let l : _ = small (goal.at.returns c).After-shared_slice_known-1 in
    ap (λ (x : ℕ). bits_from (x / 2 ^ (8 - a.at % 8) % 256 ∷ []) 0 8) (both (goal.at.returns c).Joined-i-s)
    ∙ ap (λ (x : ℕ). bits_from (x ∷ []) 0 8) (window a.s.now a.at l.0 l.1) ∙ number_bits_lem a.s.now a.at

pub overflow_cast-both : goal.overflow_cast-both
overflow_cast-both c = omega (arith, small (goal.at.overflow_cast-both c).After-shared_slice_known-1)

pub overflow_mul-both : goal.overflow_mul-both
overflow_mul-both c = omega (arith, small (goal.at.overflow_mul-both c).After-shared_slice_known-1)

pub overflow_cast-both-then-i-s : goal.overflow_cast-both-then-i-s
overflow_cast-both-then-i-s c = omega (arith, small (goal.at.overflow_cast-both-then-i-s c).After-shared_slice_known-1)

pub overflow_add-both-then-i-s : goal.overflow_add-both-then-i-s
overflow_add-both-then-i-s c = omega (arith, small (goal.at.overflow_add-both-then-i-s c).After-shared_slice_known-1)
