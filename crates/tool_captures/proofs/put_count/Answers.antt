-- `tool_captures::put_count` meets its contract: the pieces of the text are written one behind the other. Assumes nothing.
use mathlib.Core.Path.{refl}
use mathlib.Core.List.{◌++◌}
use Rattle.text.specs.Text.{codes, decimal}
use Rattle.tool_captures.specs.PlaceLine.{count_line}
use Rattle.basics.proofs.Writing.{left_all, left_room, left_rest, left_on, left_end}
use Rattle.tool_captures.proofs.put_count.Goals as goal

pub put_named-requires : goal.put_named-requires
unfolding codes count_line
put_named-requires c = left_room (left_all c.args.out.now c.requires refl) (codes "ok frames " ++ decimal c.args.n) (codes "\n") refl

pub put_all-requires : goal.put_all-requires
unfolding codes count_line
put_all-requires c =
    let w1 : _ = left_on (left_all c.args.out.now c.requires refl) (codes "\n") refl c.put_named.ensures in
    left_rest w1

pub returns : goal.returns
unfolding codes count_line
returns c =
    let w1 : _ = left_on (left_all c.args.out.now c.requires refl) (codes "\n") refl c.put_named.ensures in
    left_end w1 c.put_all.ensures
