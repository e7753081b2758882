-- `units::next::worded` meets its contract: a word of all ones, a closing word with its move out, or the page's last word. Assumes nothing.
use mathlib.Core.Path.{◌≡◌, sym, ap, ◌∙◌}
use Prim.Native.Nat.{ℕ, ◌+◌, ◌*◌, ◌-◌, ◌^◌, ◌<◌, ◌≤◌}
use native.Mathlib.Omega.{arith}
use lib.Pow.{pow-lt}
use Rattle.basics.proofs.Numbers.{times_bit}
use Rattle.position.specs.Position.{position_after, last_x, x_after}
use Rattle.position.specs.declared.Position.{Position}
use Rattle.position.proofs.Positions.{x_on}
use Rattle.field_length.specs.FieldLength.{length_after_closing}
use Rattle.diagram.proofs.Contexts.{longer_is, closed_is}
use Rattle.units.proofs.Ahead.{page_columns}
use Rattle.units.proofs.Units.{tells_ones, tells_last, tells_closing}
use Rattle.units.proofs.next.worded.Goals.{After-ones-full}
use Rattle.units.proofs.next.worded.Goals as goal

-- all ones of 2 to 7 bits
small : (n full : ℕ) → full ≡ 2 ^ n - 1 → 2 ≤ n → n ≤ 7 → (0 < full) × (full < 256)
small n full e h l = let a : 2 ^ n < 2 ^ 8 = pow-lt {i = n} {j = 8} (omega arith) in let b : 2 ^ 0 < 2 ^ n = pow-lt {i = 0} {j = n} (omega arith) in (omega arith, omega arith)

full : (c : After-ones-full) → (0 < c.ones-full.result) × (c.ones-full.result < 256)
full c = let n : _ = c.length-n.ensures in small _ _ c.ones-full.ensures n.1 n.2

fits : (b v m : ℕ) → b < 2 → v ≤ m → m < 256 → (b * (m + 1) < 2 ^ 63) × (v + b * (m + 1) < 2 ^ 63)
fits b v m h l k = let t = times_bit (m + 1) b h in (omega arith, omega arith)

-- X behind the word
x-is : (at v : ℕ) {p : Position} {x : ℕ} → p ≡ position_after (at + v) → x ≡ last_x p → x ≡ x_after (last_x (position_after at)) v
x-is at v e f = f ∙ ap last_x e ∙ x_on at v

pub run_ahead-v-requires : goal.run_ahead-v-requires
run_ahead-v-requires c = let p : _ = c.requires in (p.0, p.1, (full (goal.at.run_ahead-v-requires c).After-ones-full).1)

pub returns-then-v-full : goal.returns-then-v-full
returns-then-v-full c = let p : _ = c.requires in let n : _ = c.length-n.ensures in
    rw c.going_on.ensures (tells_ones _ _ _ _ _ p.2 _ _ _ n.0 c.ones-full.ensures c.run_ahead-v.ensures.0 (omega (arith, page_columns p.0, c.run_ahead-v.ensures.1)) c.if-v-full.true
    (longer_is _ _ _ _ _ _ c.with_length-longer.ensures c.after_ones.ensures n.0) (full (goal.at.returns-then-v-full c).After-ones-full).0)

pub returns-then-at-v : goal.returns-then-at-v
returns-then-at-v c = let p : _ = c.requires in
    rw c.last.ensures (tells_last _ _ _ _ _ p.2 _ _ _ c.length-n.ensures.0 c.ones-full.ensures c.run_ahead-v.ensures.0 (omega (arith, page_columns p.0, c.run_ahead-v.ensures.1)) c.if-v-full.false
    (c.if-at-v.true ∙ sym (page_columns p.0)))

pub overflow_add-full : goal.overflow_add-full
overflow_add-full c = omega (arith, (full (goal.at.overflow_add-full c).After-ones-full).1)

pub overflow_mul-out : goal.overflow_mul-out
overflow_mul-out c = omega (arith, fits _ 0 _ c.way_out-out.ensures.1 (omega arith) (full (goal.at.overflow_mul-out c).After-ones-full).1)

pub overflow_add-v : goal.overflow_add-v
overflow_add-v c = omega (arith, fits _ c.run_ahead-v.result _ c.way_out-out.ensures.1 (omega (arith, c.run_ahead-v.ensures.0)) (full (goal.at.overflow_add-v c).After-ones-full).1)

pub overflow_add-v-2 : goal.overflow_add-v-2
overflow_add-v-2 c = omega (arith, (full (goal.at.overflow_add-v-2 c).After-ones-full).1, c.run_ahead-v.ensures.0)

pub returns : goal.returns
returns c = let p : _ = c.requires in let n : _ = c.length-n.ensures in
    rw c.going_on-2.ensures (tells_closing _ _ _ _ _ p.2 _ _ _ n.0 c.ones-full.ensures c.run_ahead-v.ensures.0 (omega (arith, page_columns p.0, c.run_ahead-v.ensures.1)) c.if-v-full.false
    _ (omega (arith, page_columns p.0, c.run_ahead-v.ensures.1, c.if-at-v.false)) c.column.ensures c.with_pels-c.ensures c.way_out-out.ensures.0 c.way_out-out.ensures.1 c.due_in.ensures
    (closed_is _ _ _ _ _ _ _ c.with_length-closed.ensures (c.after_closing.ensures ∙ ap (length_after_closing _ _ _) (x-is _ _ c.position_after.ensures c.last_x-x.ensures)) n.0))
