-- Run words as octets: two a word, the low one first, in two's complement. Assumes nothing.
use Rattle.std.specs.Prelude.{cond, List, [], ◌∷◌, ◌++◌, ℕ, ◌+◌, ◌-◌, ◌*◌, ◌/◌, ◌%◌, ltb, ℤ, pos, negsuc}

-- a word as a number of 16 bits
abbrev pub word_number : ℤ → ℕ
word_number (pos n) = n
word_number (negsuc n) = 65535 - n

abbrev pub octets_of_word : ℤ → List ℕ
octets_of_word w = word_number w % 256 ∷ word_number w / 256 ∷ []

unfoldable pub octets_of_words : List ℤ → List ℕ
octets_of_words [] = []
octets_of_words (w ∷ ws) = octets_of_word w ++ octets_of_words ws

-- the word of a number of 16 bits
unfoldable pub numbered_word : ℕ → ℤ
numbered_word n = cond (ltb n 32768) (pos n) (negsuc (65535 - n))

-- an odd octet at the end is no word
unfoldable pub words_of_octets : List ℕ → List ℤ
words_of_octets [] = []
words_of_octets (a ∷ []) = []
words_of_octets (a ∷ b ∷ octets) = numbered_word (a + 256 * b) ∷ words_of_octets octets
