-- A portable bitmap read as a bitmap: answer and output together, within any largest number of lines and then this installation's. Assumes nothing.
use Rattle.std.specs.Prelude.{cond, List, [], ◌∷◌, ◌++◌, ℕ, zero, suc, ◌+◌, ◌-◌, ◌*◌, ◌/◌, ◌≤◌, ◌≡◌, leb, eqb, length, get_or, take, drop, Option, Some, None, Result, Ok, Err}
use Rattle.basics.specs.Placed.{at_front}
use Rattle.position.specs.Position.{pels_per_line, octets_per_line, octets_in_front}
use Rattle.bitmap.specs.Form.{sizes}
use Rattle.bitmap.specs.Validity.{most_lines, lines_within}
use Rattle.pbm.specs.declared.PbmFault.TheVariants.{NotP4, HeaderUnreadable, WidthNot1726, LinesNotAllowed, RowsMissing, OutputTooShort}
use Rattle.pbm.specs.declared.Sizes.{Sizes}
use Rattle.pbm.specs.Header.{HeaderContent, notP4, unreadable, says, pbm_header_of}
use Rattle.pbm.specs.declared.PbmFault.{PbmFault}

-- an octet with its two low bits cleared: of a row's last octet, those behind its 1726 pels
abbrev pub cleared : ℕ → ℕ
cleared x = x / 4 * 4

-- the row at the front
unfoldable pub row_in : List ℕ → List ℕ
row_in cs = take (octets_per_line - 1) cs ++ (cleared (get_or cs (octets_per_line - 1) 0) ∷ [])

-- the first n rows
unfoldable pub rows_in : ℕ → List ℕ → List ℕ
rows_in zero cs = []
rows_in (suc n) cs = row_in cs ++ rows_in n (drop octets_per_line cs)

-- a bitmap of n lines, from rows
abbrev pub page_in : ℕ → List ℕ → List ℕ
page_in n rows = sizes n ++ rows_in n rows

abbrev pub Outcome : Type 0
Outcome = Result ℕ PbmFault × List ℕ

unfoldable pub taken_from_within : ℕ → ℕ → ℕ → List ℕ → List ℕ → Outcome
taken_from_within most w h rows o =
    cond (eqb w pels_per_line)
    (cond (lines_within most h)
    (cond (leb (octets_per_line * h) (length rows))
    (cond (leb (octets_in_front + octets_per_line * h) (length o)) (Ok (octets_in_front + octets_per_line * h), at_front (page_in h rows) o) (Err OutputTooShort, o))
    (Err RowsMissing, o))
    (Err LinesNotAllowed, o))
    (Err WidthNot1726, o)

abbrev pub taken_by_within : ℕ → HeaderContent → List ℕ → Outcome
taken_by_within most notP4 o = (Err NotP4, o)
taken_by_within most unreadable o = (Err HeaderUnreadable, o)
taken_by_within most (says w h rows) o = taken_from_within most w h rows o

unfoldable pub bitmap_of_pbm_within : ℕ → List ℕ → List ℕ → Outcome
bitmap_of_pbm_within most file o = taken_by_within most (pbm_header_of file) o

abbrev pub bitmap_of_pbm : List ℕ → List ℕ → Outcome
bitmap_of_pbm file o = bitmap_of_pbm_within most_lines file o

-- ---- what the reader of the header promises: what the header says, the rows by their place in the file

-- why a file with this header is not read, be its sizes what they may
abbrev pub header_fault : HeaderContent → Option PbmFault
header_fault notP4 = Some NotP4
header_fault unreadable = Some HeaderUnreadable
header_fault (says w h rows) = None

abbrev pub HeaderIs : List ℕ → Result Sizes PbmFault → HeaderContent → Type 0
HeaderIs file (Err fault) s = header_fault s ≡ Some fault
HeaderIs file (Ok z) s = (s ≡ says z.width z.lines (drop z.rows file)) × (z.rows ≤ length file)
