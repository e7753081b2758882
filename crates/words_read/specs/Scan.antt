-- How words are judged, one after the other: of a line it is enough to keep its pels so far and the colour of its last word. That this
-- is the rule of specs/Words is shown in proofs/Scans. And where a word is drawn. Assumes nothing.
use Rattle.std.specs.Prelude.{Bool, true, false, cond, List, [], ◌∷◌, ℕ, zero, suc, ◌+◌, leb, eqb, ℤ, pos, negsuc, length, Option, Some, None}
use Rattle.words_read.specs.declared.Line.{Line}
use Rattle.words_read.specs.declared.Colour.{Colour}
use Rattle.words_read.specs.declared.Colour.TheVariants.{White, Black}
use Rattle.words.specs.declared.Front.{Front}
use Rattle.words.specs.declared.Front.TheVariants.{Line as front_of, EndOfPage as at_page_end, More}
use Rattle.words_read.specs.declared.WordEffect.{WordEffect}
use Rattle.words_read.specs.declared.WordEffect.TheVariants.{Run, EndOfLine, EndOfPage}
use Rattle.words_read.specs.declared.Pen.{Pen}
use Rattle.position.specs.Position.{pels_per_line, bits_per_line}
use Rattle.words.specs.Words.{WordLines, broken, page, joined}
use Rattle.words.specs.Lines.{FrontLine, a_line, page_end, no_line, unended}
use Rattle.words_read.specs.declared.Count.{Count}

abbrev pub empty_line : Line
empty_line = record { pels = 0; last = None }

-- a 0: it ends the page where no line has begun, else the line, whose last word is black or which is a single white pel
abbrev pub ending_behind : Option Colour → ℕ → Option WordEffect
ending_behind None pels = Some EndOfPage
ending_behind (Some Black) pels = Some EndOfLine
ending_behind (Some White) pels = cond (eqb pels 1) (Some EndOfLine) None

unfoldable pub ending : Line → Option WordEffect
ending l = ending_behind l.last l.pels

-- whether the last word is of a colour
abbrev pub is_last : Option Colour → Colour → Bool
is_last None c = false
is_last (Some White) White = true
is_last (Some White) Black = false
is_last (Some Black) White = false
is_last (Some Black) Black = true

-- n pels of a colour
unfoldable pub going : Line → Colour → ℕ → Option WordEffect
going l colour n = cond (is_last l.last colour) None (cond (leb (l.pels + n) pels_per_line) (Some (Run (record { pels = l.pels + n; last = Some colour }))) None)

abbrev pub next_of : Line → ℤ → Option WordEffect
next_of l (pos zero) = ending l
next_of l (pos (suc n)) = going l White (suc n)
next_of l (negsuc n) = going l Black (suc n)

abbrev pub chosen : Option WordEffect → Option Count → Option Count → (Line → Option Count) → Option Count
chosen None p e f = None
chosen (Some EndOfPage) p e f = p
chosen (Some EndOfLine) p e f = e
chosen (Some (Run l)) p e f = f l

-- the words from here on, behind so many lines and words
unfoldable pub scan : List ℤ → Line → ℕ → ℕ → Option Count
scan [] l lines words = None
scan (w ∷ ws) l lines words =
    chosen (next_of l w) (Some (record { lines = lines; words = words + 1 })) (scan ws empty_line (lines + 1) (words + 1)) (λ m. scan ws m lines (words + 1))

-- the words of a line, from here on, behind so many of them
abbrev pub line_chosen : Option WordEffect → ℕ → (Line → Option Front) → Option Front
line_chosen None n f = None
line_chosen (Some EndOfPage) n f = Some at_page_end
line_chosen (Some EndOfLine) n f = Some (front_of (n + 1))
line_chosen (Some (Run l)) n f = f l

unfoldable pub scan_line : List ℤ → Line → ℕ → Option Front
scan_line [] l n = Some More
scan_line (w ∷ ws) l n = line_chosen (next_of l w) n (λ m. scan_line ws m (n + 1))

-- what stands at the front of words, as the call says it
abbrev pub front_cut : FrontLine → Option Front
front_cut (a_line line) = Some (front_of (length line + 1))
front_cut page_end = Some at_page_end
front_cut unended = Some More
front_cut no_line = None

-- lines and words of what words say
abbrev pub counted : WordLines → Option Count
counted broken = None
counted (page lines) = Some (record { lines = length lines; words = length (joined lines) })

-- where the pen is after a word: a 0 takes it to the next row
abbrev pub moved : Pen → ℤ → Pen
moved p (pos zero) = record { row = p.row + bits_per_line; at = p.row + bits_per_line }
moved p (pos (suc n)) = record { row = p.row; at = p.at + suc n }
moved p (negsuc n) = record { row = p.row; at = p.at + suc n }

-- a 0 where a line would begin
abbrev pub ends_page : ℤ → Pen → Bool
ends_page (pos zero) p = eqb p.at p.row
ends_page (pos (suc n)) p = false
ends_page (negsuc n) p = false
