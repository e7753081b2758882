-- `c_words::bitmap_of_words` meets its contract. Assumes nothing.
use mathlib.Core.Path.{ap}
use Rattle.words_read.proofs.Answers.{drawn_place}
use Rattle.c_refusal.proofs.Owed.{small_refusal}
use Rattle.c_words.proofs.Returns.{bitmap_drawn, bitmap_refused}
use Rattle.c_words.proofs.bitmap_of_words.Goals as goal
use Rattle.refusal.specs.Reply.{reply_of}

pub refusal_code-requires : goal.refusal_code-requires
refusal_code-requires c = small_refusal c.bitmap_of_words.ensures (drawn_place _ _) (ap reply_of c.in-Err.is)

pub returns-in-Ok : goal.returns-in-Ok
returns-in-Ok c = bitmap_drawn _ _ c.bitmap_of_words.ensures _ c.in-Ok.is

pub returns-in-Err : goal.returns-in-Err
returns-in-Err c = bitmap_refused _ _ c.bitmap_of_words.ensures _ c.in-Err.is c.refusal_code.ensures
