-- "And back": what holds of the two calls together, proved in proofs/RoundTrip. And that a page may be written and read in parts, proved in proofs/Parts. Assumes nothing.
use Rattle.std.specs.Prelude.{◌≡◌, List, [], ◌∷◌, ◌++◌, map, ℕ, suc, ◌+◌, ◌*◌, ◌≤◌, ℤ, pos, length, take, drop}
use Rattle.basics.specs.Octets.{Octets}
use Rattle.basics.specs.Placed.{at_front}
use Rattle.refusal.specs.Reply.{gives, valid}
use Rattle.position.specs.Position.{pels_per_line}
use Rattle.bitmap.specs.Form.{Row, sizes, line_octets, rows_of}
use Rattle.bitmap.specs.Validity.{bitmap_validity}
use Rattle.bitmap.specs.Laws.{Full}
use Rattle.words.specs.declared.Extent.{Extent}
use Rattle.words.specs.Words.{row_of, page_words, page, lines_of_words}
use Rattle.words.specs.Calls.{words_of_bitmap, bitmap_of_words, page_of}
use Rattle.words.specs.Lines.{lines_words, unended, front_line, drawn_line, behind_line, by_front}

-- The words of a valid bitmap, whatever stands behind them, read back give the bitmap, octet for octet, with all its words used.
abbrev pub BitmapReadBack : Type 0
BitmapReadBack = (bm : List ℕ) → Octets bm → bitmap_validity bm ≡ valid → (rest : List ℤ) (o : List ℕ) → length bm ≤ length o →
    bitmap_of_words (page_words (rows_of bm) ++ rest) o ≡ (gives (record { octets = length bm; words = length (page_words (rows_of bm)) }), at_front bm o)

-- Words that are accepted, written again from their bitmap, give the same words up to the page's end.
abbrev pub WordsWrittenBack : Type 0
WordsWrittenBack = (ws : List ℤ) (o p : List ℕ) (e : Extent) → bitmap_of_words ws o ≡ (gives e, p) → (out : List ℤ) → e.words ≤ length out →
    words_of_bitmap (take e.octets p) out ≡ (gives e.words, at_front (take e.words ws) out)

-- ---- in parts

-- The words of a page are those of its lines, and a 0.
abbrev pub PageOfLines : Type 0
PageOfLines = (rows : List Row) → page_words rows ≡ lines_words rows ++ (pos 0 ∷ [])

-- The words of the lines from a line on are those of the next n lines and of the lines behind these. So parts of any size, joined in order, give the words of all.
abbrev pub PartsOfLines : Type 0
PartsOfLines = (rows : List Row) (from n : ℕ) → lines_words (drop from rows) ≡ lines_words (take n (drop from rows)) ++ lines_words (drop (from + n) rows)

-- A line has at most a word a pel, and its 0.
abbrev pub FewWords : Type 0
FewWords = (rows : List Row) → Full rows → length (lines_words rows) ≤ (pels_per_line + 1) * length rows

-- What words say is the line at their front and what the words behind it say: so line by line they say the lines that they say at once, or break the rule.
abbrev pub LineByLine : Type 0
LineByLine = (ws : List ℤ) → lines_of_words ws ≡ by_front (front_line ws) ws

-- And the rows that are drawn line by line are those of the bitmap.
abbrev pub DrawnLineByLine : Type 0
DrawnLineByLine = (line : List ℤ) (lines : List (List ℤ)) → page_of (behind_line line (page lines)) ≡ sizes (suc (length lines)) ++ (drawn_line line ++ line_octets (map row_of lines))

-- Where words do not stop before a 0, the words behind them change nothing of the line at their front.
abbrev pub FrontStays : Type 0
FrontStays = (ws rest : List ℤ) → (front_line ws ≡ unended → ⊥) → front_line (ws ++ rest) ≡ front_line ws
