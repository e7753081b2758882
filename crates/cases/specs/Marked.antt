-- The cases that the scope paper marks, and beside (d) one of request (iv), as one table. proofs/Marked.antt proves the one claim, that each of them holds. Assumes nothing.
use Rattle.std.specs.Prelude.{◌≡◌, List, [], ◌∷◌, map, ℕ, ◌≤◌, ℤ, pos, negsuc, length, replicate}
use Rattle.octets.specs.Bits.{Bit, O, I}
use Rattle.turning.specs.Turned.{turned_of}
use Rattle.register.specs.Register.{register_after}
use Rattle.bitmap.specs.Form.{Row}
use Rattle.words.specs.Words.{WordLines as Lines, broken, page, row_of, lines_of_words as wordsSay}
use Rattle.state.specs.declared.Mixed.TheVariants.{WB, BW}
use Rattle.state.specs.declared.Solid.TheVariants.{WW, BB}
use Rattle.state.specs.declared.State.{State}
use Rattle.state.specs.declared.State.TheVariants.{Solid as solid, Mixed as mixed}
use Rattle.diagram.specs.declared.End.{End}
use Rattle.diagram.specs.declared.End.TheVariants.{At, Closed, Open}
use Rattle.position.specs.Position.{last_column}
use Rattle.diagram.specs.declared.Lengths.{Lengths}
use Rattle.diagram.specs.declared.Start.{Start}
use Rattle.diagram.specs.Diagram.{columns}
use Rattle.diagram.specs.Decoder.{Answer, refused, read, decode, end_of}

-- what is read: so many columns, this end, these lengths; or that there is no reading, but of a beginning of so many bits, the longest
pub data CaseReading : Type 0 where
  lays : ℕ → End → Lengths → CaseReading
  none : ℕ → CaseReading

pub data Case : Type 0 where
  -- from this state and these lengths, behind column 1725, this is what these bits say
  reads : State → Lengths → List Bit → CaseReading → Case
  -- a case for every length from 2 to 7 that the paper leaves free
  every : (ℕ → Case) → Case
  -- this octet turns to that one
  turns : ℕ → ℕ → Case
  -- the check of these bits from this start is the generator, whatever that is
  checks : List Bit → ℕ → Case
  -- these run words, with the 0 that ends the page, say these rows
  draws : List ℤ → List Row → Case

abbrev pub case_reading : Answer → CaseReading
case_reading (refused k) = none k
case_reading (read ss e c) = lays (length (columns ss)) (end_of e) c.lengths

abbrev pub rows_said : Lines → List Row
rows_said broken = []
rows_said (page lines) = map row_of lines

-- the cases take X 1725
abbrev pub behind_edge : State → Lengths → Start
behind_edge s l = record { state = s; context = record { lengths = l; x = last_column } }

abbrev pub Holds : Case → Type 0
Holds (reads s l bs r) = case_reading (decode (behind_edge s l) bs) ≡ r
Holds (every case) = (n : ℕ) → 2 ≤ n → n ≤ 7 → Holds (case n)
Holds (turns x y) = turned_of x ≡ y
Holds (checks bs start) = (g : ℕ) → register_after g start bs ≡ g
Holds (draws ws rows) = rows_said (wordsSay ws) ≡ rows

-- each of these cases holds
abbrev pub Each : List Case → Type 0
Each [] = Unit {0}
Each (c ∷ cs) = Holds c × Each cs

-- black, white
abbrev lengths : ℕ → ℕ → Lengths
lengths b w = record { black = b; white = w }

abbrev pub marked : List Case
marked =
    -- (a) from WB, black 2, white 3, 1 1011 11 000 1 0100 001 1 0 010 1000 lays 15 columns, ends black 3, white 3
    reads (mixed WB) (lengths 2 3) (I ∷ I ∷ O ∷ I ∷ I ∷ I ∷ I ∷ O ∷ O ∷ O ∷ I ∷ O ∷ I ∷ O ∷ O ∷ O ∷ O ∷ I ∷ I ∷ O ∷ O ∷ I ∷ O ∷ I ∷ O ∷ O ∷ O ∷ []) (lays 15 (At (solid WW)) (lengths 3 3)) ∷
    -- (b) from WB, black 4, white 3, 1 1011 1000 1 1 101 0111 110 1 1000 lays 12, ends black 2, white 3
    reads (mixed WB) (lengths 4 3) (I ∷ I ∷ O ∷ I ∷ I ∷ I ∷ O ∷ O ∷ O ∷ I ∷ I ∷ I ∷ O ∷ I ∷ O ∷ I ∷ I ∷ I ∷ I ∷ I ∷ O ∷ I ∷ I ∷ O ∷ O ∷ O ∷ []) (lays 12 (At (solid WW)) (lengths 2 3)) ∷
    -- (c) from WW, white 3, 111 0000 lays 7 columns and ends on a closing word, white 4; black is free and stays
    every (λ b. reads (solid WW) (lengths b 3) (I ∷ I ∷ I ∷ O ∷ O ∷ O ∷ O ∷ []) (lays 7 (Closed WW) (lengths b 4))) ∷
    -- (d) BW, 0110: none, but 0 has one; both lengths are free
    every (λ b. every (λ w. reads (mixed BW) (lengths b w) (O ∷ I ∷ I ∷ O ∷ []) (none 1))) ∷
    -- (iv) BW, 01010: none, but 0101 has one, by the moves 010 and 1; both lengths are free
    every (λ b. every (λ w. reads (mixed BW) (lengths b w) (O ∷ I ∷ O ∷ I ∷ O ∷ []) (none 4))) ∷
    -- (e) BW, 010: ends WB; both lengths are free and stay
    every (λ b. every (λ w. reads (mixed BW) (lengths b w) (O ∷ I ∷ O ∷ []) (lays 1 (At (mixed WB)) (lengths b w)))) ∷
    -- (f) WW, white 2, 00 1: open; black is free and stays
    every (λ b. reads (solid WW) (lengths b 2) (O ∷ O ∷ I ∷ []) (lays 0 Open (lengths b 2))) ∷
    -- (g) n = 7, all ones: stays 7; of either solid state, and the other's length is free and stays
    every (λ b. reads (solid WW) (lengths b 7) (I ∷ I ∷ I ∷ I ∷ I ∷ I ∷ I ∷ []) (lays 127 (At (solid WW)) (lengths b 7))) ∷
    every (λ w. reads (solid BB) (lengths 7 w) (I ∷ I ∷ I ∷ I ∷ I ∷ I ∷ I ∷ []) (lays 127 (At (solid BB)) (lengths 7 w))) ∷
    -- (h) octet 62 turns to B9
    turns 0x62 0xB9 ∷
    -- (i) the check of the one bit 1 from start 0 is the generator
    checks (I ∷ []) 0 ∷
    -- (j) run line -1726, 0 is all black
    draws (negsuc 1725 ∷ pos 0 ∷ pos 0 ∷ []) (replicate 1726 I ∷ []) ∷
    []
