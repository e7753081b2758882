-- Run words of some lines of a page, and the line at the front of run words, so that a page may be written and read in parts. Assumes nothing.
use Rattle.std.specs.Prelude.{cond, List, [], ◌∷◌, ◌++◌, ℕ, zero, suc, ◌+◌, ℤ, pos, negsuc, length, take, drop}
use Rattle.octets.specs.Bits.{packed}
use Rattle.position.specs.Position.{octets_per_line}
use Rattle.refusal.specs.Reply.{Reply, gives, refuses, Outcome, delivered, if_valid}
use Rattle.bitmap.specs.Form.{Row, rows_of}
use Rattle.bitmap.specs.Validity.{most_lines, validity_within}
use Rattle.words.specs.declared.Front.{Front}
use Rattle.words.specs.declared.Front.TheVariants.{Line, EndOfPage, More}
use Rattle.words.specs.Words.{line_words, row_of, fits, line_allowed, WordLines, broken, page, lines_of_words}

-- ---- words of some lines

-- a line's words with the 0 that ends it
abbrev pub ended_line : Row → List ℤ
ended_line row = line_words row ++ (pos 0 ∷ [])

-- the words of some rows, each with its 0
unfoldable pub lines_words : List Row → List ℤ
lines_words [] = []
lines_words (row ∷ rows) = ended_line row ++ lines_words rows

-- of a bitmap's lines n from line `from` on, or as many as there are
abbrev pub some_lines : List ℕ → ℕ → ℕ → List ℤ
some_lines bm from n = lines_words (take n (drop from (rows_of bm)))

-- 17 and 18, then 16
unfoldable pub words_of_lines_within : ℕ → List ℕ → ℕ → ℕ → List ℤ → Outcome ℕ ℤ
words_of_lines_within most bm from n o = if_valid (validity_within most bm) (delivered (length (some_lines bm from n)) 0 (some_lines bm from n) o) o

abbrev pub words_of_lines : List ℕ → ℕ → ℕ → List ℤ → Outcome ℕ ℤ
words_of_lines bm from n o = words_of_lines_within most_lines bm from n o

-- ---- the line at the front of words

-- what stands there: the words of a line, the 0 that ends a page, words that break the rule of a line, or words that stop before a 0 and keep the rule so far
pub data FrontLine : Type 0 where
  a_line : List ℤ → FrontLine
  page_end : FrontLine
  no_line : FrontLine
  unended : FrontLine

-- behind the words of the line so far
unfoldable pub front_from : List ℤ → List ℤ → FrontLine
front_from [] line = cond (fits line) unended no_line
front_from (pos zero ∷ ws) [] = page_end
front_from (pos zero ∷ ws) (v ∷ line) = cond (line_allowed (v ∷ line)) (a_line (v ∷ line)) no_line
front_from (pos (suc n) ∷ ws) line = front_from ws (line ++ (pos (suc n) ∷ []))
front_from (negsuc n ∷ ws) line = front_from ws (line ++ (negsuc n ∷ []))

abbrev pub front_line : List ℤ → FrontLine
front_line ws = front_from ws []

-- a line's octets in a bitmap
abbrev pub drawn_line : List ℤ → List ℕ
drawn_line line = packed octets_per_line (row_of line)

-- what is answered where there is room
abbrev pub front_reply : FrontLine → Reply Front
front_reply (a_line line) = gives (Line (length line + 1))
front_reply page_end = gives EndOfPage
front_reply unended = gives More
front_reply no_line = refuses 22 0

abbrev pub drawn_front : FrontLine → List ℕ → Outcome Front ℕ
drawn_front (a_line line) o = delivered (Line (length line + 1)) 0 (drawn_line line) o
drawn_front page_end o = (front_reply page_end, o)
drawn_front unended o = (front_reply unended, o)
drawn_front no_line o = (front_reply no_line, o)

-- 22, then 16
unfoldable pub line_of_words : List ℤ → List ℕ → Outcome Front ℕ
line_of_words ws o = drawn_front (front_line ws) o

-- ---- line by line

-- a line, and the lines of the words behind it
abbrev pub behind_line : List ℤ → WordLines → WordLines
behind_line line broken = broken
behind_line line (page lines) = page (line ∷ lines)

-- what words say, by the line at their front and what the words behind it say
abbrev pub by_front : FrontLine → List ℤ → WordLines
by_front (a_line line) ws = behind_line line (lines_of_words (drop (length line + 1) ws))
by_front page_end ws = page []
by_front unended ws = broken
by_front no_line ws = broken
