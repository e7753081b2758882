-- `register::Checker::frame_check` meets its contract: what is left from here is what was to be done. Assumes nothing.
use mathlib.Core.Path.{◌≡◌, ap, ap₂, ◌∙◌}
use Prim.Native.Nat.{ℕ, ◌*◌, ◌/◌, ◌%◌, ◌<◌}
use native.Mathlib.Omega.{arith}
use lib.Bits.{bit_xor, xor_lt}
use lib.ListN.{get_or}
use Rattle.octets.proofs.Fields.{bits_drop}
use Rattle.octets.specs.Bits.{bits_from}
use Rattle.register.specs.declared.Checker.{Checker}
use Rattle.register.specs.Register.{register_after, table_entry}
use Rattle.register.specs.Setting.{check_under, frame_check}
use Rattle.register.proofs.Setting.{Allowed, allowed}
use Rattle.register.proofs.Steps.{check_octets, entry_lt}
use Rattle.register.proofs.Checker.frame_check.Goals.{After-loop-i, After-octet}
use Rattle.register.proofs.Checker.frame_check.Goals as goal

set : (x : Checker) → Allowed x.setting
set x = allowed _ x.is_allowed

pub loop-i-init : goal.loop-i-init
unfolding frame_check check_under
loop-i-init c =
    let a : _ = c.args in
    let f : ℕ = a.self.now.setting.first in
    let s : _ = set a.self.now in
    let z : 8 * (f / 8) ≡ f = omega (arith, s) in
    (s.start, rw (z, bits_drop a.s.now f 573 (omega (arith, s))))

index : (c : After-octet) → bit_xor (c.loop-i.r / 16) c.octet.result < 256
index c = xor_lt 8 (c.loop-i.r / 16) c.octet.result (omega arith) (omega arith)

entry : (c : After-octet) → get_or c.args.self.now.table (bit_xor (c.loop-i.r / 16) c.octet.result) 0 ≡ table_entry c.args.self.now.setting.generator (bit_xor (c.loop-i.r / 16) c.octet.result)
entry c = c.args.self.now.is_its_table.entry _ (index c)

small : (c : After-octet) → get_or c.args.self.now.table (bit_xor (c.loop-i.r / 16) c.octet.result) 0 < 4096
small c = rw (entry c) (entry_lt _ _ (set c.args.self.now).generator)

pub loop-i-preserved : goal.loop-i-preserved
loop-i-preserved c =
    let a : _ = c.args in
    let l : _ = c.loop-i in
    let g : ℕ = a.self.now.setting.generator in
    let x : ℕ = get_or a.s.now l.i 0 in
    let i : ℕ = bit_xor (l.r / 16) c.octet.result in
    let f : l.r % 16 * 256 ≡ l.r * 256 % 4096 = omega arith in
    let e : table_entry g i ≡ table_entry g (bit_xor (l.r / 16) x) = ap (λ y. table_entry g (bit_xor (l.r / 16) y)) c.octet.ensures in
    let o : After-octet = (goal.at.loop-i-preserved c).After-octet in (
      xor_lt 12 (get_or a.self.now.table i 0) (l.r % 16 * 256) (small o) (omega arith),
      check_octets g l.r _ a.s.now l.i 573 (set a.self.now).generator (omega arith) (omega arith) (ap₂ bit_xor (entry o ∙ e) f) ∙ l.invariant.1,
    )

-- 71 octets are taken, and five bits are left
left : (c : After-loop-i) →
    let a : _ = c.args in register_after a.self.now.setting.generator c.loop-i.r (bits_from a.s.now 568 5) ≡ frame_check a.self.now.setting a.s.now
left c = let z : c.loop-i.i ≡ 71 = omega (arith, c.loop-i.auto.i-end (omega (arith, (set c.args.self.now).first))) in rw z at c.loop-i.invariant.1

pub returns : goal.returns
returns c = (c.bits.ensures.0 ∙ left (goal.at.returns c).After-loop-i, c.bits.ensures.1)

pub overflow_cast-k : goal.overflow_cast-k
overflow_cast-k c = omega (arith, index (goal.at.overflow_cast-k c).After-octet)

pub offset_bounds-self-k : goal.offset_bounds-self-k
offset_bounds-self-k c = omega (arith, index (goal.at.offset_bounds-self-k c).After-octet)

pub bounds-self-k : goal.bounds-self-k
bounds-self-k c = omega (arith, index (goal.at.bounds-self-k c).After-octet)

pub overflow_cast-r : goal.overflow_cast-r
overflow_cast-r c = omega (arith, small (goal.at.overflow_cast-r c).After-octet)

pub bits-requires : goal.bits-requires
bits-requires c = ((set c.args.self.now).generator, omega arith, omega arith)
