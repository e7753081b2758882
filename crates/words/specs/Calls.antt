-- The two calls: reply and output together, within any largest number of lines and then this installation's. Assumes nothing.
use Rattle.std.specs.Prelude.{cond, List, [], map, ℕ, ◌+◌, ◌*◌, ℤ, length}
use Rattle.refusal.specs.Reply.{refuses, Outcome, delivered, if_valid}
use Rattle.position.specs.Position.{octets_per_line, octets_in_front}
use Rattle.bitmap.specs.Form.{rows_of, bitmap_of_rows}
use Rattle.bitmap.specs.Validity.{most_lines, lines_within, validity_within}
use Rattle.words.specs.declared.Extent.{Extent}
use Rattle.words.specs.Words.{row_of, joined, page_words, WordLines, broken, page, lines_of_words}

-- ---- words of a bitmap

-- 17 and 18, then 16
unfoldable pub words_of_bitmap_within : ℕ → List ℕ → List ℤ → Outcome ℕ ℤ
words_of_bitmap_within most bm o = if_valid (validity_within most bm) (delivered (length (page_words (rows_of bm))) 0 (page_words (rows_of bm)) o) o

abbrev pub words_of_bitmap : List ℕ → List ℤ → Outcome ℕ ℤ
words_of_bitmap bm o = words_of_bitmap_within most_lines bm o

-- ---- bitmap of words

-- the bitmap of what words say
abbrev pub page_of : WordLines → List ℕ
page_of broken = []
page_of (page lines) = bitmap_of_rows (map row_of lines)

abbrev pub extent_of : List (List ℤ) → Extent
extent_of lines = record { octets = octets_in_front + octets_per_line * length lines; words = length (joined lines) }

abbrev pub drawn_within : ℕ → WordLines → List ℕ → Outcome Extent ℕ
drawn_within most broken o = (refuses 22 0, o)
drawn_within most (page lines) o = cond (lines_within most (length lines)) (delivered (extent_of lines) 0 (page_of (page lines)) o) (refuses 17 0, o)

abbrev pub drawn_if : WordLines → List ℕ → Outcome Extent ℕ
drawn_if s o = drawn_within most_lines s o

-- 22, then 17, then 16
unfoldable pub bitmap_of_words_within : ℕ → List ℤ → List ℕ → Outcome Extent ℕ
bitmap_of_words_within most ws o = drawn_within most (lines_of_words ws) o

abbrev pub bitmap_of_words : List ℤ → List ℕ → Outcome Extent ℕ
bitmap_of_words ws o = bitmap_of_words_within most_lines ws o
