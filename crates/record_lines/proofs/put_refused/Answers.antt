-- `record_lines::put_refused` meets its contract: the pieces of the text are written one behind the other. Assumes nothing.
use mathlib.Core.Path.{refl}
use mathlib.Core.List.{List, ◌++◌}
use Prim.Native.Nat.{ℕ}
use Rattle.text.specs.Text.{codes}
use Rattle.refusal.specs.declared.Refusal.{Refusal}
use Rattle.refusal.specs.Number.{number_of}
use Rattle.record_lines.specs.Lines.{named, bit_word, refused_line}
use Rattle.basics.proofs.Writing.{left_all, left_room, left_rest, left_on, left_end}
use Rattle.record_lines.proofs.put_refused.Goals as goal

-- what is left of the line, from a piece on
abbrev bit_left : Refusal → List ℕ
bit_left f = bit_word (number_of f.reason) f.bit ++ codes "\n"

abbrev place_left : Refusal → List ℕ
place_left f = named " at " f.«record» ++ bit_left f

pub put_named-requires : goal.put_named-requires
unfolding codes refused_line
put_named-requires c = rw c.from.ensures.0 (left_room (left_all c.args.out.now c.requires refl) (named "refused " (number_of c.args.refusal.reason)) (place_left c.args.refusal) refl)

pub put_named-requires-2 : goal.put_named-requires-2
unfolding codes refused_line
put_named-requires-2 c =
    let w1 : _ = left_on (left_all c.args.out.now c.requires refl) (place_left c.args.refusal) refl (rw c.from.ensures.0 at c.put_named.ensures) in
    left_room w1 (named " at " c.args.refusal.«record») (bit_left c.args.refusal) refl

pub put_bit-requires : goal.put_bit-requires
unfolding codes refused_line
put_bit-requires c =
    let w1 : _ = left_on (left_all c.args.out.now c.requires refl) (place_left c.args.refusal) refl (rw c.from.ensures.0 at c.put_named.ensures) in
    let w2 : _ = left_on w1 (bit_left c.args.refusal) refl c.put_named-2.ensures in
    left_room w2 (bit_word (number_of c.args.refusal.reason) c.args.refusal.bit) (codes "\n") refl

pub put_all-requires : goal.put_all-requires
unfolding codes refused_line
put_all-requires c =
    let w1 : _ = left_on (left_all c.args.out.now c.requires refl) (place_left c.args.refusal) refl (rw c.from.ensures.0 at c.put_named.ensures) in
    let w2 : _ = left_on w1 (bit_left c.args.refusal) refl c.put_named-2.ensures in
    let w3 : _ = left_on w2 (codes "\n") refl c.put_bit.ensures in
    left_rest w3

pub returns : goal.returns
unfolding codes refused_line
returns c =
    let w1 : _ = left_on (left_all c.args.out.now c.requires refl) (place_left c.args.refusal) refl (rw c.from.ensures.0 at c.put_named.ensures) in
    let w2 : _ = left_on w1 (bit_left c.args.refusal) refl c.put_named-2.ensures in
    let w3 : _ = left_on w2 (codes "\n") refl c.put_bit.ensures in
    left_end w3 c.put_all.ensures
