-- `words::word` meets its contract. Assumes nothing.
use mathlib.Core.Path.{◌∙◌}
use lib.IntN.{+ℤ_idl}
use mir.Facts.{to_z-of_z}
use Rattle.words.proofs.Signs.{white_word, black_fits}
use Rattle.words.proofs.word.Goals as goal

pub overflow_sub-result : goal.overflow_sub-result
overflow_sub-result c = rw (white_word c.requires) (black_fits _ c.requires)

pub returns-then-black : goal.returns-then-black
returns-then-black c = rw (white_word c.requires, c.if-black.true) (to_z-of_z (black_fits _ c.requires) ∙ +ℤ_idl _)

pub returns-else-black : goal.returns-else-black
returns-else-black c = rw c.if-black.false (white_word c.requires)
