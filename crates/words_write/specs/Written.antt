-- What the functions that write the words of a bitmap promise one another. Assumes nothing.
use Rattle.std.specs.Prelude.{◌≡◌, cond, List, [], ◌∷◌, ℕ, ◌+◌, ◌-◌, ◌≤◌, ◌<◌, ltb, eqb, ℤ, pos, length, Result, Ok, Err}
use Rattle.basics.specs.Placed.{placed}
use Rattle.refusal.specs.declared.Reason.{Reason}
use Rattle.refusal.specs.declared.Reason.TheVariants.{OutputTooShort}
use Rattle.octets.specs.Bits.{O, I}
use Rattle.position.specs.Position.{pels_per_line}
use Rattle.bitmap.specs.Form.{rows_from}
use Rattle.words.specs.Words.{word_of}
use Rattle.words.specs.Lines.{lines_words}

-- the word of a run from pel x up to pel y, 3 black and 0 white; trailing white has none
unfoldable pub run_word : ℕ → ℕ → ℕ → List ℤ
run_word s x y = cond (eqb s 3) (word_of I (y - x) ∷ []) (cond (ltb y pels_per_line) (word_of O (y - x) ∷ []) [])

-- what ends a line that has words or none so far: the 0, and of an all-white line its 1 first
unfoldable pub line_end : ℕ → List ℤ
line_end words = cond (eqb words 0) (pos 1 ∷ pos 0 ∷ []) (pos 0 ∷ [])

-- the words of a bitmap's lines from one up to another
abbrev pub words_from : List ℕ → ℕ → ℕ → List ℤ
words_from bm from end = lines_words (rows_from bm from (end - from))

-- what writing words answers and leaves, where there has to be room for so many behind them
abbrev pub WrittenWords : List ℤ → ℕ → Result ℕ Reason → List ℤ → List ℤ → Type 0
WrittenWords ws behind (Ok n) o q = (n ≡ length ws) × (n + behind ≤ length o) × (q ≡ placed 0 ws o)
WrittenWords ws behind (Err reason) o q = (reason ≡ OutputTooShort) × (length o < length ws + behind) × (q ≡ o)
