-- Words and their octets say the same, whole and in parts. Proved in proofs/Words. Assumes nothing.
use Rattle.std.specs.Prelude.{◌≡◌, List, [], ◌∷◌, ◌++◌, ℕ, ◌%◌, ◌<◌, ℤ, pos, negsuc, length}
use Rattle.run_octets.specs.Octets.{octets_of_words, words_of_octets}

-- a word of 16 bits, and words
abbrev pub Word : ℤ → Type 0
Word (pos n) = n < 32768
Word (negsuc n) = n < 32768

abbrev pub Words : List ℤ → Type 0
Words [] = Unit {0}
Words (w ∷ ws) = Word w × Words ws

-- The octets of words, whatever stands behind them, read back give the words, and then those of the octets behind.
abbrev pub WordsBack : Type 0
WordsBack = (ws : List ℤ) → Words ws → (rest : List ℕ) → words_of_octets (octets_of_words ws ++ rest) ≡ ws ++ words_of_octets rest

-- The octets of words in parts are those of the parts.
abbrev pub OctetsInParts : Type 0
OctetsInParts = (ws vs : List ℤ) → octets_of_words (ws ++ vs) ≡ octets_of_words ws ++ octets_of_words vs

-- And the words of octets in parts, where each part but the last has whole words.
abbrev pub WordsInParts : Type 0
WordsInParts = (octets rest : List ℕ) → length octets % 2 ≡ 0 → words_of_octets (octets ++ rest) ≡ words_of_octets octets ++ words_of_octets rest
