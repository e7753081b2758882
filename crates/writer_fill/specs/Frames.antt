-- The image frames of a page. A frame takes units until it has more than 500 bits, or more columns than the rate allows; the next one starts
-- in the state, with the lengths and at the X that it left, and there the next word counts as a run's first. Assumes nothing.
use Rattle.std.specs.Prelude.{Bool, cond, ◌||◌, List, [], ◌∷◌, ◌++◌, ℕ, zero, suc, ltb, length}
use Rattle.state.specs.declared.Solid.TheVariants.{WW}
use Rattle.state.specs.declared.State.{State}
use Rattle.state.specs.declared.State.TheVariants.{Solid as solid}
use Rattle.position.specs.Position.{last_column}
use Rattle.diagram.specs.declared.Lengths.{Lengths}
use Rattle.diagram.specs.declared.Context.{Context}
use Rattle.diagram.specs.declared.Start.{Start}
use Rattle.diagram.specs.Diagram.{Step, columns}
use Rattle.units.specs.declared.StepDue.{StepDue}
use Rattle.units.specs.Units.{bits_of_steps, entered, stands, NextUnit, unit, last, next_unit}

-- ---- one frame

-- the steps that fill it, what is due then, the context then and the columns left; or the steps with which the page is finished, what was due
-- before the last unit and the lengths then
pub data Filled : Type 0 where
  full : List Step → StepDue → Context → List State → Filled
  finished : List Step → StepDue → Lengths → Filled

-- more than 500 bits, or more columns than the rate allows; one that would be left open is counted
unfoldable pub is_full : ℕ → List Step → Bool
is_full most ss = ltb 500 (length (bits_of_steps ss)) || ltb most (length (columns ss))

-- what comes next, where this is due in this context, and `go` takes the units after it
abbrev pub taking : NextUnit → List Step → StepDue → Context → (List Step → StepDue → Context → List State → Filled) → Filled
taking (last ts) ss d c go = finished (ss ++ ts) d c.lengths
taking (unit ts e m cs) ss d c go = go (ss ++ ts) e m cs

-- a frame with the steps ss, and what it takes of these columns; there are at most n units more
unfoldable pub fill : ℕ → ℕ → List Step → StepDue → Context → List State → Filled
fill zero most ss d c cs = finished ss d c.lengths
fill (suc n) most ss d c cs = cond (is_full most ss) (full ss d c cs) (taking (next_unit d c cs) ss d c (λ ts e m ds. fill n most ts e m ds))

-- ---- all frames

-- where a frame starts, as its header says it, and its steps
pub record Frame : Type 0 where
  pub start : Start
  pub steps : List Step

abbrev pub frame_of : Start → List Step → Frame
frame_of a ss = record { start = a; steps = ss }

-- a frame that is filled, where `go` has the frames after it; a frame with no steps is not written
abbrev pub framed : Start → Filled → (Start → List State → List Frame) → List Frame
framed a (finished [] d l) go = []
framed a (finished (t ∷ ts) d l) go = frame_of a (t ∷ ts) ∷ []
framed a (full ss d c cs) go = frame_of a ss ∷ go (record { state = stands d; context = c }) cs

-- the frames of these columns, from a start on; there are at most k
unfoldable pub frames_from : ℕ → ℕ → Start → List State → List Frame
frames_from zero most a cs = []
frames_from (suc k) most a cs = framed a (fill (suc (length cs)) most [] (entered a.state) a.context cs) (λ b ds. frames_from k most b ds)

-- a page starts in WW, 7, 7, behind a column 1725 that is not on it
abbrev pub sevens : Lengths
sevens = record { black = 7; white = 7 }

abbrev pub page_start : Start
page_start = record { state = solid WW; context = record { lengths = sevens; x = last_column } }

unfoldable pub frames_of : ℕ → List State → List Frame
frames_of most cs = frames_from (suc (length cs)) most page_start cs
