-- What the functions that find units in a bitmap promise. Assumes nothing.
use Rattle.std.specs.Prelude.{◌≡◌, List, [], ℕ, ◌+◌, ◌*◌, ◌%◌, ◌^◌, ◌<◌, ◌≤◌, length, drop, Option, Some, None, IfSome}
use Rattle.octets.specs.Bits.{field_bits}
use Rattle.position.specs.Position.{columns_per_line, octets_per_line, octets_in_front}
use Rattle.state.specs.declared.State.{State}
use Rattle.diagram.specs.declared.Lengths.{Lengths}
use Rattle.diagram.specs.Diagram.{ValidLengths, Step, columns}
use Rattle.bitmap.specs.Form.{lines_of}
use Rattle.units.specs.declared.StepDue.{StepDue}
use Rattle.units.specs.declared.Continuation.{Continuation}
use Rattle.units.specs.declared.Encoded.{Encoded}
use Rattle.units.specs.declared.Unit.{Unit}
use Rattle.units.specs.Units.{bits_of_steps, context_at, NextUnit, unit, last, next_unit}

-- a bitmap with all its octets, an even number of lines and n columns
pub record Page (bm : List ℕ) (n : ℕ) : Type 0 where
  pub size : length bm ≡ octets_in_front + octets_per_line * lines_of bm
  pub even : lines_of bm % 2 ≡ 0
  pub few : lines_of bm < 65536
  pub count : n ≡ columns_per_line * lines_of bm

-- a unit with which the page is finished, and one after which it goes on
abbrev pub last_unit : ℕ → ℕ → ℕ → Unit
last_unit bits v n = record { bits = record { 0 = bits }; value = v; columns = record { 0 = n }; continuation = None }

abbrev pub unit_before : StepDue → Lengths → ℕ → ℕ → ℕ → Unit
unit_before d l bits v n = record { bits = record { 0 = bits }; value = v; columns = record { 0 = n }; continuation = Some (record { due = d; lengths = l }) }

-- what comes next by these steps, where n columns are encoded behind them and the page goes on so, or is finished
abbrev pub coming : List Step → Option Continuation → ℕ → List State → NextUnit
coming ss None n cs = last ss
coming ss (Some c) n cs = unit ss c.due (context_at n c.lengths) (drop n cs)

-- u is what comes next, where d is due behind what is encoded
pub record IsNextUnit (cs : List State) (d : StepDue) (e : Encoded) (u : Unit) : Type 0 where
  pub steps : List Step
  pub is :
      next_unit d (context_at e.columns.0 e.lengths) (drop e.columns.0 cs) ≡
      coming steps u.continuation (e.columns.0 + u.columns.0) cs
  pub bits : bits_of_steps steps ≡ field_bits u.bits.0 u.value
  pub columns : length (Rattle.diagram.specs.Diagram.columns steps) ≡ u.columns.0
  pub few : u.bits.0 ≤ 8
  pub small : u.value < 2 ^ u.bits.0
  pub none : u.bits.0 ≡ 0 → steps ≡ []
  pub within : e.columns.0 + u.columns.0 ≤ length cs
  pub more : IfSome u.continuation (λ (c : Continuation). (0 < u.columns.0) × ValidLengths c.lengths)
