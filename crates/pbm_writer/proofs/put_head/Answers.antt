-- `pbm_writer::put_head` meets its contract. Assumes nothing.
use mathlib.Core.Path.{refl}
use mathlib.Core.List.{◌++◌}
use Rattle.basics.proofs.Writing.{left_all, left_room, left_rest, left_on, left_end}
use Rattle.text.specs.Text.{codes, decimal}
use Rattle.pbm.specs.Written.{head_text}
use Rattle.pbm_writer.proofs.put_head.Goals as goal

pub put_named-requires : goal.put_named-requires
unfolding head_text codes
put_named-requires c = left_room (left_all c.args.out.now c.requires refl) (codes "P4\n1726 " ++ decimal c.args.lines) (codes "\n") refl

pub put_all-requires : goal.put_all-requires
unfolding head_text codes
put_all-requires c = left_rest (left_on (left_all c.args.out.now c.requires refl) (codes "\n") refl c.put_named.ensures)

pub returns : goal.returns
unfolding head_text codes
returns c = left_end (left_on (left_all c.args.out.now c.requires refl) (codes "\n") refl c.put_named.ensures) c.put_all.ensures
