-- `record_lines::put_end` meets its contract: the pieces of the text are written one behind the other. Assumes nothing.
use mathlib.Core.Path.{refl}
use mathlib.Core.List.{◌++◌}
use Rattle.text.specs.Text.{codes}
use Rattle.record_lines.specs.Lines.{named, end_line, end_lines}
use Rattle.basics.proofs.Writing.{left_all, left_room, left_rest, left_on, left_end}
use Rattle.record_lines.proofs.put_end.Goals as goal

pub put_end_record-requires : goal.put_end_record-requires
unfolding codes end_lines
put_end_record-requires c = left_room (left_all c.args.out.now c.requires refl) (end_line c.args.k) (named "ok lines " c.args.lines ++ codes "\n") refl

pub put_named-requires : goal.put_named-requires
unfolding codes end_lines
put_named-requires c =
    let w1 : _ = left_on (left_all c.args.out.now c.requires refl) (named "ok lines " c.args.lines ++ codes "\n") refl c.put_end_record.ensures in
    left_room w1 (named "ok lines " c.args.lines) (codes "\n") refl

pub put_all-requires : goal.put_all-requires
unfolding codes end_lines
put_all-requires c =
    let w1 : _ = left_on (left_all c.args.out.now c.requires refl) (named "ok lines " c.args.lines ++ codes "\n") refl c.put_end_record.ensures in
    let w2 : _ = left_on w1 (codes "\n") refl c.put_named.ensures in
    left_rest w2

pub returns : goal.returns
unfolding codes end_lines
returns c =
    let w1 : _ = left_on (left_all c.args.out.now c.requires refl) (named "ok lines " c.args.lines ++ codes "\n") refl c.put_end_record.ensures in
    let w2 : _ = left_on w1 (codes "\n") refl c.put_named.ensures in
    left_end w2 c.put_all.ensures
