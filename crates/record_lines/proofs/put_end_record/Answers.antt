-- `record_lines::put_end_record` meets its contract: the pieces of the text are written one behind the other. Assumes nothing.
use mathlib.Core.Path.{refl}
use Rattle.text.specs.Text.{codes, decimal}
use Rattle.record_lines.specs.Lines.{end_line}
use Rattle.basics.proofs.Writing.{left_all, left_room, left_rest, left_on, left_end}
use Rattle.record_lines.proofs.put_end_record.Goals as goal

pub put_decimal-requires : goal.put_decimal-requires
unfolding codes end_line
put_decimal-requires c = left_room (left_all c.args.out.now c.requires refl) (decimal c.args.k) (codes " end\n") refl

pub put_all-requires : goal.put_all-requires
unfolding codes end_line
put_all-requires c =
    let w1 : _ = left_on (left_all c.args.out.now c.requires refl) (codes " end\n") refl c.put_decimal.ensures in
    left_rest w1

pub returns : goal.returns
unfolding codes end_line
returns c =
    let w1 : _ = left_on (left_all c.args.out.now c.requires refl) (codes " end\n") refl c.put_decimal.ensures in
    left_end w1 c.put_all.ensures
