-- `part_next::mixed_move` meets its contract: each return is a line of the table of moves (Moves.Says). Assumes nothing.
use mathlib.Core.Path.{◌≡◌, ◌∙◌}
use mathlib.Core.List.{[], ◌∷◌}
use Prim.Native.Nat.{ℕ, ◌+◌, ◌<◌}
use native.Mathlib.Nat.{add-zero}
use native.Mathlib.Omega.{arith}
use Rattle.octets.specs.Bits.{bit_num}
use Rattle.octets.proofs.Window.{window_bit}
use Rattle.part_next.proofs.Moves.{wrong_first, one_left, own_twice, two_left, three_left, three_cut, other_fourth, own_fourth, wrong_fourth, far_fourth}
use Rattle.part_next.proofs.mixed_move.Goals.{After-octet_at-next}
use Rattle.part_next.proofs.mixed_move.Goals as goal

-- the octet in hand has the bits that come next
module _ (c : After-octet_at-next) where
  next : (k : ℕ) → k < 8 → bit_num (c.octet_at-next.result ∷ []) k ≡ bit_num c.args.octets.now (c.args.at + k)
  next k h = window_bit _ _ _ k c.octet_at-next.ensures h

  first : bit_num (c.octet_at-next.result ∷ []) 0 ≡ bit_num c.args.octets.now c.args.at
  first = rw (add-zero c.args.at) at (next 0 (omega arith))

  second : bit_num (c.octet_at-next.result ∷ []) 1 ≡ bit_num c.args.octets.now (c.args.at + 1)
  second = next 1 (omega arith)

  third : bit_num (c.octet_at-next.result ∷ []) 2 ≡ bit_num c.args.octets.now (c.args.at + 2)
  third = next 2 (omega arith)

  fourth : bit_num (c.octet_at-next.result ∷ []) 3 ≡ bit_num c.args.octets.now (c.args.at + 3)
  fourth = next 3 (omega arith)

pub returns-then-bit_of-own : goal.returns-then-bit_of-own
returns-then-bit_of-own c =
    let f : _ = first (goal.at.returns-then-bit_of-own c).After-octet_at-next in
    wrong_first _ _ _ _ (omega arith) (omega arith)

pub returns-then-left-eq1 : goal.returns-then-left-eq1
returns-then-left-eq1 c =
    let f : _ = first (goal.at.returns-then-left-eq1 c).After-octet_at-next in
    one_left _ _ _ _ (omega arith) (omega arith)

pub returns-then-bit_of-own-2 : goal.returns-then-bit_of-own-2
returns-then-bit_of-own-2 c =
    let f : _ = first (goal.at.returns-then-bit_of-own-2 c).After-octet_at-next in
    let s : _ = second (goal.at.returns-then-bit_of-own-2 c).After-octet_at-next in
    own_twice _ _ _ _ (omega arith) (omega arith) (omega arith)

pub returns-then-left-eq2 : goal.returns-then-left-eq2
returns-then-left-eq2 c =
    let f : _ = first (goal.at.returns-then-left-eq2 c).After-octet_at-next in
    let s : _ = second (goal.at.returns-then-left-eq2 c).After-octet_at-next in
    two_left _ _ _ _ (omega arith) (omega arith) (omega arith)

pub returns-then-third-own : goal.returns-then-third-own
returns-then-third-own c =
    let f : _ = first (goal.at.returns-then-third-own c).After-octet_at-next in
    let s : _ = second (goal.at.returns-then-third-own c).After-octet_at-next in
    let t : _ = third (goal.at.returns-then-third-own c).After-octet_at-next in
    three_left _ _ _ _ (omega arith) (omega arith) (omega arith) (omega arith)

pub returns-then-left-eq3 : goal.returns-then-left-eq3
returns-then-left-eq3 c =
    let f : _ = first (goal.at.returns-then-left-eq3 c).After-octet_at-next in
    let s : _ = second (goal.at.returns-then-left-eq3 c).After-octet_at-next in
    let t : _ = third (goal.at.returns-then-left-eq3 c).After-octet_at-next in
    three_cut _ _ _ _ (omega arith) (omega arith) (omega arith) (omega arith)

pub returns-then-last-own : goal.returns-then-last-own
returns-then-last-own c =
    let f : _ = first (goal.at.returns-then-last-own c).After-octet_at-next in
    let s : _ = second (goal.at.returns-then-last-own c).After-octet_at-next in
    let t : _ = third (goal.at.returns-then-last-own c).After-octet_at-next in
    let o : _ = fourth (goal.at.returns-then-last-own c).After-octet_at-next in
    other_fourth _ _ _ _ (omega arith) (omega arith) (omega arith) (omega arith) (omega arith)

pub returns-then-third-own-2 : goal.returns-then-third-own-2
returns-then-third-own-2 c =
    let f : _ = first (goal.at.returns-then-third-own-2 c).After-octet_at-next in
    let s : _ = second (goal.at.returns-then-third-own-2 c).After-octet_at-next in
    let t : _ = third (goal.at.returns-then-third-own-2 c).After-octet_at-next in
    let o : _ = fourth (goal.at.returns-then-third-own-2 c).After-octet_at-next in
    own_fourth _ _ _ _ (omega arith) (omega arith) (omega arith) (omega arith) _ _ (c.bit_of-last.ensures.0 ∙ o) c.solid_of.ensures (omega arith)

pub returns-then-last-own-2 : goal.returns-then-last-own-2
returns-then-last-own-2 c =
    let f : _ = first (goal.at.returns-then-last-own-2 c).After-octet_at-next in
    let s : _ = second (goal.at.returns-then-last-own-2 c).After-octet_at-next in
    let t : _ = third (goal.at.returns-then-last-own-2 c).After-octet_at-next in
    let o : _ = fourth (goal.at.returns-then-last-own-2 c).After-octet_at-next in
    wrong_fourth _ _ _ _ (omega arith) (omega arith) (omega arith) (omega arith) (omega arith)

pub returns : goal.returns
returns c =
    let f : _ = first (goal.at.returns c).After-octet_at-next in
    let s : _ = second (goal.at.returns c).After-octet_at-next in
    let t : _ = third (goal.at.returns c).After-octet_at-next in
    let o : _ = fourth (goal.at.returns c).After-octet_at-next in
    far_fourth _ _ _ _ (omega arith) (omega arith) (omega arith) (omega arith) _ _ (c.bit_of-last.ensures.0 ∙ o) c.solid_of-2.ensures (omega arith)
