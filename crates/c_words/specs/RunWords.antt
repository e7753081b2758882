-- What the C calls on run words return, and what they leave in the output and in the answer. Assumes nothing.
use Rattle.std.specs.Prelude.{List, [], ◌∷◌, ℕ, ℤ}
use Rattle.words.specs.declared.Extent.{Extent}
use Rattle.words.specs.Calls.{words_of_bitmap, bitmap_of_words}
use Rattle.c_refusal.specs.Returned.{Returned, returned}

-- of a bitmap, the output that was and the answer that was: the answer is the number of words
unfoldable pub exported_words : List ℕ → List ℤ → List ℕ → Returned ℤ
exported_words bm o answer = returned (λ n. n ∷ []) (words_of_bitmap bm o) answer

-- the octets written and the words used
abbrev pub extent_numbers : Extent → List ℕ
extent_numbers e = e.octets ∷ e.words ∷ []

-- of words, the output that was and the answer that was
unfoldable pub exported_bitmap : List ℤ → List ℕ → List ℕ → Returned ℕ
exported_bitmap ws o answer = returned extent_numbers (bitmap_of_words ws o) answer
