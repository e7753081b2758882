-- `tool_captures::put_place` meets its contract: the pieces of the text are written one behind the other. Assumes nothing.
use mathlib.Core.Path.{refl}
use mathlib.Core.List.{◌++◌}
use Rattle.text.specs.Text.{codes, decimal}
use Rattle.tool_captures.specs.PlaceLine.{place_line}
use Rattle.basics.proofs.Writing.{left_all, left_room, left_rest, left_on, left_end}
use Rattle.tool_captures.proofs.put_place.Goals as goal

pub put_named-requires : goal.put_named-requires
unfolding codes place_line
put_named-requires c = left_room (left_all c.args.out.now c.requires refl) (codes "octet " ++ decimal c.args.octet) ((codes " bit " ++ decimal c.args.bit) ++ codes "\n") refl

pub put_named-requires-2 : goal.put_named-requires-2
unfolding codes place_line
put_named-requires-2 c =
    let w1 : _ = left_on (left_all c.args.out.now c.requires refl) ((codes " bit " ++ decimal c.args.bit) ++ codes "\n") refl c.put_named.ensures in
    left_room w1 (codes " bit " ++ decimal c.args.bit) (codes "\n") refl

pub put_all-requires : goal.put_all-requires
unfolding codes place_line
put_all-requires c =
    let w1 : _ = left_on (left_all c.args.out.now c.requires refl) ((codes " bit " ++ decimal c.args.bit) ++ codes "\n") refl c.put_named.ensures in
    let w2 : _ = left_on w1 (codes "\n") refl c.put_named-2.ensures in
    left_rest w2

pub returns : goal.returns
unfolding codes place_line
returns c =
    let w1 : _ = left_on (left_all c.args.out.now c.requires refl) ((codes " bit " ++ decimal c.args.bit) ++ codes "\n") refl c.put_named.ensures in
    let w2 : _ = left_on w1 (codes "\n") refl c.put_named-2.ensures in
    left_end w2 c.put_all.ensures
