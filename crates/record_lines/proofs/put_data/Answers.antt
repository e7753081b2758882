-- `record_lines::put_data` meets its contract: the pieces of the text are written one behind the other. Assumes nothing.
use mathlib.Core.Path.{refl}
use mathlib.Core.List.{List, ◌++◌}
use Prim.Native.Nat.{ℕ}
use Rattle.text.specs.Text.{codes, decimal}
use Rattle.frame.specs.declared.Header.{Header}
use Rattle.record_lines.specs.Lines.{named, lengths_end, data_line}
use Rattle.basics.proofs.Writing.{left_all, left_room, left_rest, left_on, left_end}
use Rattle.record_lines.proofs.put_data.Goals as goal

-- what is left of the line, from a piece on
abbrev x_left : Header → List ℕ
x_left h = named " x " h.x ++ lengths_end h

abbrev count_left : Header → List ℕ
count_left h = named " count " h.count ++ x_left h

abbrev sequence_left : Header → List ℕ
sequence_left h = named " data seq " h.sequence ++ count_left h

pub put_decimal-requires : goal.put_decimal-requires
unfolding codes data_line
put_decimal-requires c = left_room (left_all c.args.out.now c.requires refl) (decimal c.args.k) (sequence_left c.args.h) refl

pub put_named-requires : goal.put_named-requires
unfolding codes data_line
put_named-requires c =
    let w1 : _ = left_on (left_all c.args.out.now c.requires refl) (sequence_left c.args.h) refl c.put_decimal.ensures in
    left_room w1 (named " data seq " c.args.h.sequence) (count_left c.args.h) refl

pub put_named-requires-2 : goal.put_named-requires-2
unfolding codes data_line
put_named-requires-2 c =
    let w1 : _ = left_on (left_all c.args.out.now c.requires refl) (sequence_left c.args.h) refl c.put_decimal.ensures in
    let w2 : _ = left_on w1 (count_left c.args.h) refl c.put_named.ensures in
    left_room w2 (named " count " c.args.h.count) (x_left c.args.h) refl

pub put_named-requires-3 : goal.put_named-requires-3
unfolding codes data_line
put_named-requires-3 c =
    let w1 : _ = left_on (left_all c.args.out.now c.requires refl) (sequence_left c.args.h) refl c.put_decimal.ensures in
    let w2 : _ = left_on w1 (count_left c.args.h) refl c.put_named.ensures in
    let w3 : _ = left_on w2 (x_left c.args.h) refl c.put_named-2.ensures in
    left_room w3 (named " x " c.args.h.x) (lengths_end c.args.h) refl

pub put_lengths-requires : goal.put_lengths-requires
unfolding codes data_line
put_lengths-requires c =
    let w1 : _ = left_on (left_all c.args.out.now c.requires refl) (sequence_left c.args.h) refl c.put_decimal.ensures in
    let w2 : _ = left_on w1 (count_left c.args.h) refl c.put_named.ensures in
    let w3 : _ = left_on w2 (x_left c.args.h) refl c.put_named-2.ensures in
    let w4 : _ = left_on w3 (lengths_end c.args.h) refl c.put_named-3.ensures in
    left_rest w4

pub returns : goal.returns
unfolding codes data_line
returns c =
    let w1 : _ = left_on (left_all c.args.out.now c.requires refl) (sequence_left c.args.h) refl c.put_decimal.ensures in
    let w2 : _ = left_on w1 (count_left c.args.h) refl c.put_named.ensures in
    let w3 : _ = left_on w2 (x_left c.args.h) refl c.put_named-2.ensures in
    let w4 : _ = left_on w3 (lengths_end c.args.h) refl c.put_named-3.ensures in
    left_end w4 c.put_lengths.ensures
