-- `record_lines::put_state` meets its contract: the pieces of the text are written one behind the other, the pels by each of the four states. Assumes nothing.
use mathlib.Core.Path.{◌≡◌, refl, sym}
use mathlib.Core.List.{List, [], ◌∷◌, ◌++◌}
use Prim.Native.Nat.{ℕ, ◌+◌, ◌/◌, ◌%◌}
use Rattle.text.specs.Text.{codes}
use Rattle.state.specs.Pels.{pels_of}
use Rattle.state.specs.declared.Mixed.TheVariants.{WB, BW}
use Rattle.state.specs.declared.Solid.TheVariants.{WW, BB}
use Rattle.state.specs.declared.State.{State}
use Rattle.state.specs.declared.State.TheVariants.{Solid as solid, Mixed as mixed}
use Rattle.record_lines.specs.Lines.{state_end}
use Rattle.basics.proofs.Writing.{left_all, left_room, left_rest, left_on, left_end}
use Rattle.record_lines.proofs.put_state.Goals as goal

-- the two pels, and the end of the line
abbrev two_pels : ℕ → List ℕ
two_pels p = (48 + p / 2) ∷ (48 + p % 2) ∷ []

abbrev pels_left : ℕ → List ℕ
pels_left p = two_pels p ++ codes "\n"

is-end : (s : State) → codes " state " ++ pels_left (pels_of s) ≡ state_end s
unfolding codes
is-end (solid WW) = refl
is-end (solid BB) = refl
is-end (mixed WB) = refl
is-end (mixed BW) = refl

pub put_all-requires : goal.put_all-requires
unfolding codes
put_all-requires c = left_room (left_all c.args.out.now c.requires (sym (is-end c.args.state))) (codes " state ") (pels_left (pels_of c.args.state)) refl

pub put_all-requires-2 : goal.put_all-requires-2
unfolding codes
put_all-requires-2 c =
    let w1 : _ = left_on (left_all c.args.out.now c.requires (sym (is-end c.args.state))) (pels_left (pels_of c.args.state)) refl c.put_all.ensures in
    left_room w1 (two_pels (pels_of c.args.state)) (codes "\n") refl

pub put_all-requires-3 : goal.put_all-requires-3
unfolding codes
put_all-requires-3 c =
    let w1 : _ = left_on (left_all c.args.out.now c.requires (sym (is-end c.args.state))) (pels_left (pels_of c.args.state)) refl c.put_all.ensures in
    let w2 : _ = left_on w1 (codes "\n") refl (rw c.pels-p.ensures.0 at c.put_all-2.ensures) in
    left_rest w2

pub returns : goal.returns
unfolding codes
returns c =
    let w1 : _ = left_on (left_all c.args.out.now c.requires (sym (is-end c.args.state))) (pels_left (pels_of c.args.state)) refl c.put_all.ensures in
    let w2 : _ = left_on w1 (codes "\n") refl (rw c.pels-p.ensures.0 at c.put_all-2.ensures) in
    left_end w2 c.put_all-3.ensures
