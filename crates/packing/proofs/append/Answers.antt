-- `packing::append` meets its contract: a part is added to one octet, and the rest is the next one. Assumes nothing.
use mathlib.Core.Path.{◌≡◌, sym, ap, ◌∙◌}
use mathlib.Core.List.{List}
use Prim.Native.Nat.{ℕ, ◌+◌, ◌-◌, ◌*◌, ◌/◌, ◌%◌, ◌^◌}
use native.Mathlib.Omega.{arith}
use lib.Pow.{shr_le, mod-mod-pow}
use lib.ListN.{length, get_or, set}
use lib.Seq.{set_out}
use Rattle.octets.specs.Bits.{put_bits, number_bits, field_bits}
use Rattle.octets.proofs.Fields.{length_put}
use Rattle.packing.proofs.Appended.{number_reversed, added_lt, put_free}
use Rattle.packing.proofs.append.Goals.{then-i-s, else-i-s, Joined-i-s}
use Rattle.packing.proofs.append.Goals as goal

pub overflow_cast-s : goal.overflow_cast-s
overflow_cast-s c = record { fits = omega (arith, shr_le c.reverse-x.result (c.args.at % 8)) }

pub overflow_add-s : goal.overflow_add-s
overflow_add-s c =
    let a : _ = c.args in
    record { fits = added_lt (get_or a.s.now (a.at / 8) 0) (a.at % 8) c.reverse-x.result (omega arith) (omega arith) c.requires.2.own (omega (arith, c.slice_known-then-i-s-1.given (a.at / 8))) }

-- the octets with the first of the two put
one : (c : Joined-i-s) → let a = c.args in c.if-i-s.s ≡ set a.s.now (a.at / 8) (get_or a.s.now (a.at / 8) 0 + c.reverse-x.result / 2 ^ (a.at % 8))
one c = elim c.if-i-s.branch [ then-i-s w ↦ w.s-is | else-i-s w ↦ w.s-is ∙ sym (set_out _ _ _ w.if-i-s.false) ]

-- the octets with both put
two : (c : Joined-i-s) → let a = c.args in
    set c.if-i-s.s (a.at / 8 + 1) (c.reverse-x.result * 2 ^ (8 - a.at % 8) % 256) ≡ put_bits a.s.now a.at (field_bits 8 a.v)
two c =
    let a : _ = c.args in
    let x : ℕ = c.reverse-x.result in
    ap (λ (s : List ℕ). set s (a.at / 8 + 1) (x * 2 ^ (8 - a.at % 8) % 256)) (one c) ∙ sym (put_free a.s.now a.at x (omega arith) c.requires.2)
    ∙ ap (put_bits a.s.now a.at) (ap (number_bits 8) c.reverse-x.ensures ∙ number_reversed 8 a.v)

pub returns-then-i-s-2 : goal.returns-then-i-s-2
returns-then-i-s-2 c =
    let a : _ = c.args in
    ap (set c.if-i-s.s (a.at / 8 + 1)) (mod-mod-pow (c.reverse-x.result * 2 ^ (8 - a.at % 8)) 56 8) ∙ two (goal.at.returns-then-i-s-2 c).Joined-i-s

pub returns-else-i-s-2 : goal.returns-else-i-s-2
returns-else-i-s-2 c = sym (set_out _ _ _ c.if-i-s-2.false) ∙ two (goal.at.returns-else-i-s-2 c).Joined-i-s

pub shape_of-s-then-i-s-2 : goal.shape_of-s-then-i-s-2
shape_of-s-then-i-s-2 c = ap length (returns-then-i-s-2 c) ∙ length_put _ _ _

pub shape_of-s-else-i-s-2 : goal.shape_of-s-else-i-s-2
shape_of-s-else-i-s-2 c = ap length (returns-else-i-s-2 c) ∙ length_put _ _ _
