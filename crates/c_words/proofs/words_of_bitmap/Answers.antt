-- `c_words::words_of_bitmap` meets its contract. Assumes nothing.
use mathlib.Core.Path.{ap}
use Rattle.words.proofs.Answers.{words_place}
use Rattle.c_refusal.proofs.Owed.{small_refusal}
use Rattle.c_words.proofs.Returns.{words_listed, words_refused}
use Rattle.c_words.proofs.words_of_bitmap.Goals as goal
use Rattle.refusal.specs.Reply.{reply_of}

pub refusal_code-requires : goal.refusal_code-requires
refusal_code-requires c = small_refusal c.words_of_bitmap.ensures (words_place _ _) (ap reply_of c.in-Err.is)

pub returns-in-Ok : goal.returns-in-Ok
returns-in-Ok c = words_listed _ _ c.words_of_bitmap.ensures _ c.in-Ok.is

pub returns-in-Err : goal.returns-in-Err
returns-in-Err c = words_refused _ _ c.words_of_bitmap.ensures _ c.in-Err.is c.refusal_code.ensures
