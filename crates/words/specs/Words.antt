-- The run words of a page: a run's size, white positive and black negative. Assumes nothing.
use Rattle.std.specs.Prelude.{Bool, true, false, cond, List, [], ◌∷◌, ◌++◌, map, ℕ, zero, suc, ◌-◌, leb, ℤ, pos, negsuc, neg_ℤ, nat_abs, length, replicate}
use Rattle.octets.specs.Bits.{Bit, O, I}
use Rattle.position.specs.Position.{pels_per_line}
use Rattle.bitmap.specs.Form.{Row}

-- ---- from rows to words

abbrev pub word_of : Bit → ℕ → ℤ
word_of O n = pos n
word_of I n = neg_ℤ (pos n)

-- the words of a run of n pels of a colour and of the pels behind it; trailing white is left out
unfoldable pub runs : Bit → ℕ → Row → List ℤ
runs O n [] = []
runs I n [] = word_of I n ∷ []
runs O n (O ∷ ps) = runs O (suc n) ps
runs I n (I ∷ ps) = runs I (suc n) ps
runs O n (I ∷ ps) = word_of O n ∷ runs I 1 ps
runs I n (O ∷ ps) = word_of I n ∷ runs O 1 ps

unfoldable pub runs_of : Row → List ℤ
runs_of [] = []
runs_of (p ∷ ps) = runs p 1 ps

-- an all-white line is 1
abbrev pub or_one : List ℤ → List ℤ
or_one [] = pos 1 ∷ []
or_one (w ∷ ws) = w ∷ ws

-- a line's words, without the 0 that ends it
abbrev pub line_words : Row → List ℤ
line_words row = or_one (runs_of row)

-- a 0 ends each line, and one more the page
unfoldable pub joined : List (List ℤ) → List ℤ
joined [] = pos 0 ∷ []
joined (line ∷ lines) = line ++ (pos 0 ∷ joined lines)

abbrev pub page_words : List Row → List ℤ
page_words rows = joined (map line_words rows)

-- ---- from words to rows

abbrev pub colour_of : ℤ → Bit
colour_of (pos n) = O
colour_of (negsuc n) = I

unfoldable pub pels_of_words : List ℤ → Row
pels_of_words [] = []
pels_of_words (w ∷ ws) = replicate (nat_abs w) (colour_of w) ++ pels_of_words ws

-- a line's row: behind its words all is white
unfoldable pub row_of : List ℤ → Row
row_of line = pels_of_words line ++ replicate (pels_per_line - length (pels_of_words line)) O

-- ---- the rule of a line

abbrev pub unlike : Bit → Bit → Bool
unlike O O = false
unlike O I = true
unlike I O = true
unlike I I = false

unfoldable pub alternates : List ℤ → Bool
alternates [] = true
alternates (v ∷ []) = true
alternates (v ∷ w ∷ ws) = cond (unlike (colour_of v) (colour_of w)) (alternates (w ∷ ws)) false

-- the last word is black
unfoldable pub ends_black : List ℤ → Bool
ends_black [] = false
ends_black (v ∷ []) = unlike O (colour_of v)
ends_black (v ∷ w ∷ ws) = ends_black (w ∷ ws)

-- the all-white line
abbrev pub is_one : List ℤ → Bool
is_one [] = false
is_one (pos zero ∷ ws) = false
is_one (pos (suc zero) ∷ []) = true
is_one (pos (suc zero) ∷ w ∷ ws) = false
is_one (pos (suc (suc n)) ∷ ws) = false
is_one (negsuc n ∷ ws) = false

-- colours alternate, and sizes total at most a line's pels
unfoldable pub fits : List ℤ → Bool
fits line = cond (alternates line) (leb (length (pels_of_words line)) pels_per_line) false

-- trailing white is left out, so that a line ends black; or it is all white
unfoldable pub line_allowed : List ℤ → Bool
line_allowed line = cond (is_one line) true (cond (fits line) (ends_black line) false)

unfoldable pub all_allowed : List (List ℤ) → Bool
all_allowed [] = true
all_allowed (line ∷ lines) = cond (line_allowed line) (all_allowed lines) false

-- ---- the lines of a page of words

-- what words say: the words of the page's lines, or that they break the rule
pub data WordLines : Type 0 where
  broken : WordLines
  page : List (List ℤ) → WordLines

-- words are cut at each 0; a 0 where a line would begin ends the page, and words that stop before it break the rule
unfoldable pub cut_from : List ℤ → List ℤ → List (List ℤ) → WordLines
cut_from [] line lines = broken
cut_from (pos zero ∷ ws) [] lines = page lines
cut_from (pos zero ∷ ws) (v ∷ line) lines = cut_from ws [] (lines ++ ((v ∷ line) ∷ []))
cut_from (pos (suc n) ∷ ws) line lines = cut_from ws (line ++ (pos (suc n) ∷ [])) lines
cut_from (negsuc n ∷ ws) line lines = cut_from ws (line ++ (negsuc n ∷ [])) lines

abbrev pub if_allowed : WordLines → WordLines
if_allowed broken = broken
if_allowed (page lines) = cond (all_allowed lines) (page lines) broken

unfoldable pub lines_of_words : List ℤ → WordLines
lines_of_words ws = if_allowed (cut_from ws [] [])
