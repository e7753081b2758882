-- The units that encode a page: a move between the mixed states or out of them; an all-ones word; a closing word with its move out. A run that
-- ends the page gets its closing word with no move. Assumes nothing.
use Rattle.std.specs.Prelude.{Bool, true, false, cond, List, [], ◌∷◌, ◌++◌, ℕ, suc, ◌-◌, ◌^◌, eqb, leb, drop}
use Rattle.octets.specs.Bits.{Bit, field_bits}
use Rattle.state.specs.declared.Solid.{Solid}
use Rattle.state.specs.declared.State.{State}
use Rattle.state.specs.declared.State.TheVariants.{Solid as solid, Mixed as mixed}
use Rattle.state.specs.Pels.{pels_of}
use Rattle.position.specs.Position.{position_after, last_x}
use Rattle.diagram.specs.declared.Lengths.{Lengths}
use Rattle.diagram.specs.declared.Context.{Context}
use Rattle.field_length.specs.declared.Nth.{Nth}
use Rattle.field_length.specs.declared.Nth.TheVariants.{First, Later}
use Rattle.diagram.specs.Diagram.{length_of, after_move, longer, closed, Step, move, word, step_bits}
use Rattle.units.specs.declared.StepDue.{StepDue}
use Rattle.units.specs.declared.StepDue.TheVariants.{Move, Word}

-- the bits of steps, end to end
unfoldable pub bits_of_steps : List Step → List Bit
bits_of_steps [] = []
bits_of_steps (s ∷ ss) = step_bits s ++ bits_of_steps ss

-- ---- what is due

-- where a state has been entered, and where a frame starts
abbrev pub entered : State → StepDue
entered (mixed m) = Move m
entered (solid s) = Word First s

-- the state that the writing stands in
abbrev pub stands : StepDue → State
stands (Move m) = mixed m
stands (Word k s) = solid s

-- ---- the next unit

-- the context where n columns of a page are encoded, with these lengths then
abbrev pub context_at : ℕ → Lengths → Context
context_at n l = record { lengths = l; x = last_x (position_after n) }

-- the steps of a unit, what is due then, the context then and the columns left; or the steps that end the page
pub data NextUnit : Type 0 where
  unit : List Step → StepDue → Context → List State → NextUnit
  last : List Step → NextUnit

-- how many of these columns, from the first on, are of a solid state
unfoldable pub ahead : Solid → List State → ℕ
ahead s [] = 0
ahead s (c ∷ cs) = cond (eqb (pels_of c) (pels_of (solid s))) (suc (ahead s cs)) 0

-- the value of an all-ones word of n bits
abbrev pub ones : ℕ → ℕ
ones n = 2 ^ n - 1

-- the word of v columns of a run
abbrev pub word_of : Solid → Lengths → ℕ → Step
word_of s l v = word s (field_bits (length_of s l) v)

-- the run has v columns more, and then come these
abbrev pub closing : Nth → Solid → Context → ℕ → List State → NextUnit
closing k s c v [] = last (word_of s c.lengths v ∷ [])
closing k s c v (d ∷ ds) = unit (word_of s c.lengths v ∷ move (solid s) d ∷ []) (entered d) (after_move (closed k s v c)) ds

-- a word of a run: all ones, where the run has so many columns more
abbrev pub running : Bool → Nth → Solid → Context → List State → NextUnit
running true k s c cs =
    unit (word_of s c.lengths (ones (length_of s c.lengths)) ∷ []) (Word Later s) (longer s (ones (length_of s c.lengths)) c) (drop (ones (length_of s c.lengths)) cs)
running false k s c cs = closing k s c (ahead s cs) (drop (ahead s cs) cs)

-- what comes next of these columns
unfoldable pub next_unit : StepDue → Context → List State → NextUnit
next_unit (Move m) c [] = last []
next_unit (Move m) c (d ∷ ds) = unit (move (mixed m) d ∷ []) (entered d) (after_move c) ds
next_unit (Word k s) c cs = running (leb (ones (length_of s c.lengths)) (ahead s cs)) k s c cs
