-- The steps of a data part, noted: progress, and an entry for each. Assumes nothing.
use Rattle.std.specs.Prelude.{List, [], ◌∷◌, ◌++◌, ℕ, ◌+◌, ◌*◌, ◌/◌, ◌%◌, ◌≤◌, ◌<◌, replicate}
use Rattle.octets.specs.Bits.{value}
use Rattle.position.specs.Position.{pels_per_line}
use Rattle.state.specs.declared.State.TheVariants.{Solid as solid}
use Rattle.state.specs.Pels.{pels_of}
use Rattle.diagram.specs.declared.Bits.{Bits}
use Rattle.diagram.specs.declared.Columns.{Columns}
use Rattle.diagram.specs.declared.End.{End}
use Rattle.diagram.specs.declared.Lengths.{Lengths}
use Rattle.diagram.specs.declared.Context.{Context}
use Rattle.diagram.specs.Diagram.{after_columns, Step, move, word}
use Rattle.part_notes.specs.declared.PartProgress.{PartProgress}
use Rattle.part_notes.specs.declared.StepsRead.{StepsRead}

-- before the first step
abbrev pub onset : Context → PartProgress
onset c = record { bits = record { 0 = 0 }; columns = record { 0 = 0 }; entries = 0; context = c }

-- after a step of so many bits and columns, with these lengths then
abbrev pub onward : PartProgress → Bits → Columns → Lengths → PartProgress
onward p taken laid l = record {
  bits = record { 0 = p.bits.0 + taken.0 };
  columns = record { 0 = p.columns.0 + laid.0 };
  entries = p.entries + 1;
  context = after_columns laid.0 l p.context;
}

-- there is room for a step of so many bits and columns, and for its entry
pub record StepFits (room : ℕ) (taken : Bits) (laid : Columns) (p : PartProgress) : Type 0 where
  pub entry : p.entries < room
  pub bits : p.bits.0 + taken.0 ≤ 512
  pub columns : p.columns.0 + laid.0 ≤ 65536
  pub few : laid.0 < 128
  pub x : p.context.x < pels_per_line

-- a step as an entry: its state and four times the number of columns that it lays
abbrev pub entry_of : Step → ℕ
entry_of (move a b) = 4 * 1 + pels_of b
entry_of (word s w) = 4 * value w + pels_of (solid s)

-- the columns that entries say, as octets
unfoldable pub spread : List ℕ → List ℕ
spread [] = []
spread (e ∷ es) = replicate (e / 4) (e % 4) ++ spread es

-- the reading that ends after this progress
abbrev pub stopped_at : PartProgress → ℕ → End → StepsRead
stopped_at p count e = record {
  entries = p.entries;
  reading = record { bits = record { 0 = count }; columns = p.columns; end = e; lengths = p.context.lengths };
}
