-- `part_next::solid_move` meets its contract. Assumes nothing.
use mathlib.Core.Path.{◌≡◌}
use mathlib.Core.List.{[], ◌∷◌}
use Prim.Native.Nat.{◌+◌}
use native.Mathlib.Nat.{add-zero}
use native.Mathlib.Omega.{arith}
use Rattle.octets.specs.Bits.{bit_num}
use Rattle.octets.proofs.Window.{window_bit}
use Rattle.part_next.proofs.Moves.{no_way, across_way, open_way, aside_BW, aside_WB}
use Rattle.part_next.proofs.solid_move.Goals.{After-octet_at-next}
use Rattle.part_next.proofs.solid_move.Goals as goal

-- the octet in hand has the bits that come next
module _ (c : After-octet_at-next) where
  first : bit_num (c.octet_at-next.result ∷ []) 0 ≡ bit_num c.args.octets.now c.args.at
  first = rw (add-zero c.args.at) at (window_bit c.args.octets.now _ c.args.at 0 c.octet_at-next.ensures (omega arith))

  second : bit_num (c.octet_at-next.result ∷ []) 1 ≡ bit_num c.args.octets.now (c.args.at + 1)
  second = window_bit _ _ _ 1 c.octet_at-next.ensures (omega arith)

pub returns-then-left-eq0 : goal.returns-then-left-eq0
returns-then-left-eq0 c = no_way _ _ _ (omega arith)

pub returns-then-bit_of-eq0 : goal.returns-then-bit_of-eq0
returns-then-bit_of-eq0 c = across_way _ _ _ (omega (arith, first (goal.at.returns-then-bit_of-eq0 c).After-octet_at-next)) (omega (arith, first (goal.at.returns-then-bit_of-eq0 c).After-octet_at-next))

pub returns-then-left-eq1 : goal.returns-then-left-eq1
returns-then-left-eq1 c = open_way _ _ _ (omega (arith, first (goal.at.returns-then-left-eq1 c).After-octet_at-next)) (omega (arith, first (goal.at.returns-then-left-eq1 c).After-octet_at-next))

pub returns-then-bit_of-eq0-2 : goal.returns-then-bit_of-eq0-2
returns-then-bit_of-eq0-2 c =
    aside_BW _ _ _ (omega (arith, first (goal.at.returns-then-bit_of-eq0-2 c).After-octet_at-next, second (goal.at.returns-then-bit_of-eq0-2 c).After-octet_at-next)) (omega (arith, first (goal.at.returns-then-bit_of-eq0-2 c).After-octet_at-next, second (goal.at.returns-then-bit_of-eq0-2 c).After-octet_at-next)) (omega (arith, first (goal.at.returns-then-bit_of-eq0-2 c).After-octet_at-next, second (goal.at.returns-then-bit_of-eq0-2 c).After-octet_at-next))

pub returns-else-bit_of-eq0-2 : goal.returns-else-bit_of-eq0-2
returns-else-bit_of-eq0-2 c =
    aside_WB _ _ _ (omega (arith, first (goal.at.returns-else-bit_of-eq0-2 c).After-octet_at-next, second (goal.at.returns-else-bit_of-eq0-2 c).After-octet_at-next)) (omega (arith, first (goal.at.returns-else-bit_of-eq0-2 c).After-octet_at-next, second (goal.at.returns-else-bit_of-eq0-2 c).After-octet_at-next)) (omega (arith, first (goal.at.returns-else-bit_of-eq0-2 c).After-octet_at-next, second (goal.at.returns-else-bit_of-eq0-2 c).After-octet_at-next))
