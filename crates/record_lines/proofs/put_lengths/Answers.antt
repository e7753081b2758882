-- `record_lines::put_lengths` meets its contract: the pieces of the text are written one behind the other. Assumes nothing.
use mathlib.Core.Path.{refl}
use mathlib.Core.List.{List, ◌++◌}
use Prim.Native.Nat.{ℕ}
use Rattle.text.specs.Text.{codes}
use Rattle.frame.specs.declared.Header.{Header}
use Rattle.record_lines.specs.Lines.{named, state_end}
use Rattle.basics.proofs.Writing.{left_all, left_room, left_rest, left_on, left_end}
use Rattle.record_lines.proofs.put_lengths.Goals as goal

-- what is left of the line, from the second length on
abbrev white_left : Header → List ℕ
white_left h = named " white " h.white ++ state_end h.state

pub put_named-requires : goal.put_named-requires
unfolding codes
put_named-requires c = left_room (left_all c.args.out.now c.requires refl) (named " black " c.args.h.black) (white_left c.args.h) refl

pub put_named-requires-2 : goal.put_named-requires-2
unfolding codes
put_named-requires-2 c =
    let w1 : _ = left_on (left_all c.args.out.now c.requires refl) (white_left c.args.h) refl c.put_named.ensures in
    left_room w1 (named " white " c.args.h.white) (state_end c.args.h.state) refl

pub put_state-requires : goal.put_state-requires
unfolding codes
put_state-requires c =
    let w1 : _ = left_on (left_all c.args.out.now c.requires refl) (white_left c.args.h) refl c.put_named.ensures in
    let w2 : _ = left_on w1 (state_end c.args.h.state) refl c.put_named-2.ensures in
    left_rest w2

pub returns : goal.returns
unfolding codes
returns c =
    let w1 : _ = left_on (left_all c.args.out.now c.requires refl) (white_left c.args.h) refl c.put_named.ensures in
    let w2 : _ = left_on w1 (state_end c.args.h.state) refl c.put_named-2.ensures in
    left_end w2 c.put_state.ensures
