-- `words_write::put_line_end` meets its contract: the 0 is left where the line has words, and else behind its 1. Assumes nothing.
use mathlib.Core.Path.{refl}
use mathlib.Core.List.{[], ◌∷◌}
use lib.IntN.{pos}
use Rattle.basics.proofs.Writing.{Left, left_all, left_room, left_rest, left_on, left_end}
use Rattle.words_write.specs.Written.{line_end}
use Rattle.words_write.proofs.Writes.{end_white, end_words}
use Rattle.words_write.proofs.put_line_end.Goals.{Joined-words-eq0, then-words-eq0, else-words-eq0}
use Rattle.words_write.proofs.put_line_end.Goals as goal

pub put-requires : goal.put-requires
put-requires c = left_room (left_all c.args.out.now c.requires (end_white c.if-words-eq0.true)) (pos 1 ∷ []) (pos 0 ∷ []) refl

last : (c : Joined-words-eq0) → Left (line_end c.args.words) c.args.out.now (pos 0 ∷ []) c.if-words-eq0.out
last c = elim c.if-words-eq0.branch [
  | then-words-eq0 w ↦ rw w.out-is (left_on (left_all c.args.out.now c.requires (end_white w.if-words-eq0.true)) (pos 0 ∷ []) refl w.put.ensures)
  | else-words-eq0 w ↦ rw w.out-is (left_all c.args.out.now c.requires (end_words w.if-words-eq0.false))
]

pub put-requires-2 : goal.put-requires-2
put-requires-2 c = left_rest (last (goal.at.put-requires-2 c).Joined-words-eq0)

pub returns : goal.returns
returns c = left_end (last (goal.at.returns c).Joined-words-eq0) c.put-2.ensures
