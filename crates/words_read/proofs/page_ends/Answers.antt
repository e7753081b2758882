-- `words_read::page_ends` meets its contract. Assumes nothing.
use borrow.Author.Rules.{rules}
use lib.IntN.{pos}
use lib.ListN.{get_or}
use Rattle.words_read.proofs.Taking.{is_zero, not_zero, ends_zero, ends_not}
use Rattle.words_read.proofs.page_ends.Goals as goal

pub returns-then-words-i-eq0 : goal.returns-then-words-i-eq0
returns-then-words-i-eq0 c =
    let s : _ = c.args in
    ends_zero s.pen (is_zero {z = get_or s.words.now s.i (pos 0)} (search rules) c.if-words-i-eq0.true)

pub returns-else-words-i-eq0 : goal.returns-else-words-i-eq0
returns-else-words-i-eq0 c =
    let s : _ = c.args in
    ends_not s.pen (get_or s.words.now s.i (pos 0)) (not_zero (get_or s.words.now s.i (pos 0)) c.if-words-i-eq0.false)
