-- The header of a portable bitmap of kind P4: `P4`, the width and the height in decimal, each behind blanks and comments, and one blank.
-- A comment runs from `#` to the end of its line. Directly behind the height stands the blank that ends the header. Assumes nothing.
use Rattle.std.specs.Prelude.{Bool, true, false, cond, not, List, [], ◌∷◌, ℕ, min, leb, eqb, length, get_or, drop}
use Rattle.text.specs.Text.{digits_value_from}

-- a space; or a tab, an end of line, a vertical tab, a form feed or a carriage return, which are 9 to 13
unfoldable pub blank_of : ℕ → Bool
blank_of c = cond (eqb c 32) true (cond (leb 9 c) (leb c 13) false)

-- ---- blanks and comments

-- whether c ends a line
unfoldable pub ends_line : ℕ → Bool
ends_line c = cond (eqb c 10) true (eqb c 13)

-- whether what stands behind c is of a comment, where c is (true) or is not (false) of one; 35 is `#`
unfoldable pub within : Bool → ℕ → Bool
within true c = not (ends_line c)
within false c = eqb c 35

-- a blank, or an octet of a comment
unfoldable pub passed : Bool → ℕ → Bool
passed true c = true
passed false c = cond (blank_of c) true (eqb c 35)

-- what stands behind blanks and comments
unfoldable pub skip_from : Bool → List ℕ → List ℕ
skip_from b [] = []
skip_from b (c ∷ cs) = cond (passed b c) (skip_from (within b c) cs) (c ∷ cs)

abbrev pub skipped : List ℕ → List ℕ
skipped cs = skip_from false cs

-- ---- numbers

unfoldable pub is_digit : ℕ → Bool
is_digit c = cond (leb 48 c) (leb c 57) false

-- the digits at the front
unfoldable pub digits : List ℕ → List ℕ
digits [] = []
digits (c ∷ cs) = cond (is_digit c) (c ∷ digits cs) []

-- what stands behind them
abbrev pub behind : List ℕ → List ℕ
behind cs = drop (length (digits cs)) cs

abbrev pub missing : List ℕ → Bool
missing cs = eqb (length (digits cs)) 0

-- the number that they say; one above 65,535 counts as 65,536, which no page has either
abbrev pub number_in : List ℕ → ℕ
number_in cs = min (digits_value_from 0 (digits cs)) 65536

-- ---- the header

-- what a file's header says, and what stands behind it
pub data HeaderContent : Type 0 where
  notP4 unreadable : HeaderContent
  says : ℕ → ℕ → List ℕ → HeaderContent

-- `P4`, and a blank or a comment behind it
unfoldable pub begins : List ℕ → Bool
begins cs = cond (eqb (get_or cs 0 0) 80) (cond (eqb (get_or cs 1 0) 52) (passed false (get_or cs 2 0)) false) false

abbrev pub width_from : List ℕ → List ℕ
width_from cs = skipped (drop 2 cs)

abbrev pub height_from : List ℕ → List ℕ
height_from cs = skipped (behind (width_from cs))

unfoldable pub after_sizes : ℕ → ℕ → List ℕ → HeaderContent
after_sizes w h cs = cond (blank_of (get_or cs 0 0)) (says w h (drop 1 cs)) unreadable

-- of a file from its width on, and from its height on
unfoldable pub sizes_in : List ℕ → List ℕ → HeaderContent
sizes_in ws hs = cond (missing ws) unreadable (cond (missing hs) unreadable (after_sizes (number_in ws) (number_in hs) (behind hs)))

unfoldable pub pbm_header_of : List ℕ → HeaderContent
pbm_header_of cs = cond (begins cs) (sizes_in (width_from cs) (height_from cs)) notP4
