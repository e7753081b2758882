-- The readings of a data part, by the printed state diagram. Which steps may come next is said by the steps before, never by the bits
-- after. Assumes nothing.
use Rattle.std.specs.Prelude.{◌≡◌, Bool, true, false, cond, List, [], ◌∷◌, ◌++◌, ℕ, ◌^◌, ◌-◌, ◌≤◌, ◌<◌, eqb, length, take, replicate}
use Rattle.octets.specs.Bits.{Bit, O, I, value}
use Rattle.state.specs.declared.Mixed.{Mixed}
use Rattle.state.specs.declared.Mixed.TheVariants.{WB, BW}
use Rattle.state.specs.declared.Solid.{Solid}
use Rattle.state.specs.declared.Solid.TheVariants.{WW, BB}
use Rattle.state.specs.declared.State.{State}
use Rattle.state.specs.declared.State.TheVariants.{Solid as solid, Mixed as mixed}
use Rattle.position.specs.Position.{pels_per_line, x_after}
use Rattle.diagram.specs.declared.Lengths.{Lengths}
use Rattle.diagram.specs.declared.Context.{Context}
use Rattle.diagram.specs.declared.Start.{Start}
use Rattle.diagram.specs.declared.End.{End}
use Rattle.diagram.specs.declared.End.TheVariants.{At, Closed, Open}
use Rattle.field_length.specs.declared.Nth.{Nth}
use Rattle.field_length.specs.declared.Nth.TheVariants.{First, Later}
use Rattle.field_length.specs.FieldLength.{length_after_ones, length_after_closing}

abbrev pub other : Solid → Solid
other WW = BB
other BB = WW

abbrev pub cross : Mixed → Mixed
cross BW = WB
cross WB = BW

-- ---- lengths: the white one is that of WW, the black one that of BB

abbrev pub length_of : Solid → Lengths → ℕ
length_of WW l = l.white
length_of BB l = l.black

abbrev pub with_length : Solid → ℕ → Lengths → Lengths
with_length WW n l = record { black = l.black; white = n }
with_length BB n l = record { black = n; white = l.white }

-- both lengths are from 2 to 7
pub record ValidLengths (l : Lengths) : Type 0 where
  pub black_low : 2 ≤ l.black
  pub black_high : l.black ≤ 7
  pub white_low : 2 ≤ l.white
  pub white_high : l.white ≤ 7

-- ---- the context: the lengths, and X, which columns move on

-- the lengths are from 2 to 7, and X from 0 to 1725
pub record ValidContext (c : Context) : Type 0 where
  pub lengths : ValidLengths c.lengths
  pub column : c.x < pels_per_line

-- after n columns, with these lengths then
abbrev pub after_columns : ℕ → Lengths → Context → Context
after_columns n l c = record { lengths = l; x = x_after c.x n }

-- after a move, which lays one column
abbrev pub after_move : Context → Context
after_move c = after_columns 1 c.lengths c

-- after an all-ones word, and after a closing one, of value v, which lay v columns
unfoldable pub longer : Solid → ℕ → Context → Context
longer s v c = after_columns v (with_length s (length_after_ones (length_of s c.lengths)) c.lengths) c

unfoldable pub closed : Nth → Solid → ℕ → Context → Context
closed k s v c = after_columns v (with_length s (length_after_closing k (length_of s c.lengths) v (x_after c.x v)) c.lengths) c

-- ---- the diagram

-- the moves and their bits
pub data Arc : State → State → List Bit → Type 0 where
  BW·BW : Arc (mixed BW) (mixed BW) (O ∷ [])
  BW·WB : Arc (mixed BW) (mixed WB) (O ∷ I ∷ O ∷ [])
  BW·WW : Arc (mixed BW) (solid WW) (O ∷ I ∷ O ∷ O ∷ [])
  BW·BB : Arc (mixed BW) (solid BB) (O ∷ I ∷ I ∷ I ∷ [])
  WB·WB : Arc (mixed WB) (mixed WB) (I ∷ [])
  WB·BW : Arc (mixed WB) (mixed BW) (I ∷ O ∷ I ∷ [])
  WB·WW : Arc (mixed WB) (solid WW) (I ∷ O ∷ O ∷ O ∷ [])
  WB·BB : Arc (mixed WB) (solid BB) (I ∷ O ∷ I ∷ I ∷ [])
  to_solid : {s : Solid} → Arc (solid s) (solid (other s)) (O ∷ [])
  to_mixed : {s : Solid} {m : Mixed} → Arc (solid s) (mixed m) (I ∷ [])

-- a step: a move from a state to a state, or a word of a solid state's run
pub data Step : Type 0 where
  move : State → State → Step
  word : Solid → List Bit → Step

-- the bits of a move, those of the diagram's arcs: `Laws.ArcsWritten`
unfoldable pub arc_bits : State → State → List Bit
arc_bits (mixed BW) (mixed BW) = O ∷ []
arc_bits (mixed BW) (mixed WB) = O ∷ I ∷ O ∷ []
arc_bits (mixed BW) (solid WW) = O ∷ I ∷ O ∷ O ∷ []
arc_bits (mixed BW) (solid BB) = O ∷ I ∷ I ∷ I ∷ []
arc_bits (mixed WB) (mixed WB) = I ∷ []
arc_bits (mixed WB) (mixed BW) = I ∷ O ∷ I ∷ []
arc_bits (mixed WB) (solid WW) = I ∷ O ∷ O ∷ O ∷ []
arc_bits (mixed WB) (solid BB) = I ∷ O ∷ I ∷ I ∷ []
arc_bits (solid s) (solid t) = O ∷ []
arc_bits (solid s) (mixed m) = I ∷ []

-- the bits of a step
abbrev pub step_bits : Step → List Bit
step_bits (move a b) = arc_bits a b
step_bits (word s w) = w

-- what is due: a move out of a mixed state; a word of a run, its first in this frame or a later one; a move out of a solid state
pub data Place : Type 0 where
  at : Mixed → Place
  run : Nth → Solid → Place
  out : Solid → Place

-- where a move into a state leads, and where a frame starts
abbrev pub enter : State → Place
enter (mixed m) = at m
enter (solid s) = run First s

-- whether a word of n bits and of value v is all ones
unfoldable pub full : ℕ → ℕ → Bool
full n v = eqb v (2 ^ n - 1)

-- at a place, in this context, this step is allowed; its bits; the place and the context after it
pub data Allowed : Place → Context → Step → List Bit → Place → Context → Type 0 where
  moves : {m : Mixed} {t : State} {w : List Bit} {c : Context} →
      Arc (mixed m) t w → Allowed (at m) c (move (mixed m) t) w (enter t) (after_move c)
  leaves : {s : Solid} {t : State} {w : List Bit} {c : Context} →
      Arc (solid s) t w → Allowed (out s) c (move (solid s) t) w (enter t) (after_move c)
  goes_on : {k : Nth} {s : Solid} {w : List Bit} {c : Context} →
      length w ≡ length_of s c.lengths → full (length_of s c.lengths) (value w) ≡ true →
      Allowed (run k s) c (word s w) w (run Later s) (longer s (value w) c)
  closes : {k : Nth} {s : Solid} {w : List Bit} {c : Context} →
      length w ≡ length_of s c.lengths → full (length_of s c.lengths) (value w) ≡ false →
      Allowed (run k s) c (word s w) w (out s) (closed k s (value w) c)

-- a reading: from a place and a context, these steps, whose bits end to end are these bits, lead to a place and a context
pub data Reading : Place → Context → List Step → List Bit → Place → Context → Type 0 where
  done : {p : Place} {c : Context} → Reading p c [] [] p c
  then : {p q r : Place} {c d e : Context} {s : Step} {ss : List Step} {w bs : List Bit} →
      Allowed p c s w q d → Reading q d ss bs r e → Reading p c (s ∷ ss) (w ++ bs) r e

-- a reading from a start
abbrev pub ReadingFrom : Start → List Step → List Bit → Place → Context → Type 0
ReadingFrom a ss bs q c = Reading (enter a.state) a.context ss bs q c

-- that bits have a reading, from a place and a context
pub record ReadableAt (p : Place) (c : Context) (bs : List Bit) : Type 0 where
  pub steps : List Step
  pub place : Place
  pub context : Context
  pub is : Reading p c steps bs place context

-- from a start
abbrev pub Readable : Start → List Bit → Type 0
Readable a bs = ReadableAt (enter a.state) a.context bs

-- where the reading of bits from a start stops: the greatest k such that the first k bits have a reading, whatever its steps are
pub record LongestBeginning (a : Start) (bs : List Bit) (k : ℕ) : Type 0 where
  pub within : k ≤ length bs
  pub readable : Readable a (take k bs)
  pub longest : (j : ℕ) → k < j → j ≤ length bs → Readable a (take j bs) → ⊥

-- ---- what steps say

-- the columns that a step lays: a move the one that it enters, a word as many as its value
unfoldable pub lays : Step → List State
lays (move a b) = b ∷ []
lays (word s w) = replicate (value w) (solid s)

unfoldable pub columns : List Step → List State
columns [] = []
columns (s ∷ ss) = lays s ++ columns ss

-- whether a step is a single 1 out of a solid state
abbrev pub enters_mixed : Step → Bool
enters_mixed (move (solid s) (mixed m)) = true
enters_mixed (move (solid s) (solid t)) = false
enters_mixed (move (mixed m) t) = false
enters_mixed (word s w) = false

-- whether the last step is one
abbrev pub last_enters_mixed : List Step → Bool
last_enters_mixed [] = false
last_enters_mixed (s ∷ []) = enters_mixed s
last_enters_mixed (s ∷ t ∷ ss) = last_enters_mixed (t ∷ ss)

-- the columns of a reading: that of a last single 1 out of a solid state is open, and not among them
unfoldable pub counted : List Step → List State
counted [] = []
counted (s ∷ []) = cond (enters_mixed s) [] (lays s)
counted (s ∷ t ∷ ss) = lays s ++ counted (t ∷ ss)

-- the state that was entered last, or the starting one; a word enters none
abbrev pub last_entered : State → List Step → State
last_entered a [] = a
last_entered a (move b c ∷ ss) = last_entered c ss
last_entered a (word s w ∷ ss) = last_entered a ss

-- the state of a place
abbrev pub standing : Place → State
standing (at m) = mixed m
standing (run k s) = solid s
standing (out s) = solid s

-- where a reading stands at a place
abbrev pub end_at : Place → End
end_at (at m) = At (mixed m)
end_at (run k s) = At (solid s)
end_at (out s) = Closed s

-- where a reading ends
unfoldable pub reading_end : Place → List Step → End
reading_end q ss = cond (last_enters_mixed ss) Open (end_at q)
