-- What holds of the arcs, of the longest beginning and of the context. Proved in proofs/Arcs, proofs/Longest and proofs/Contexts. Assumes nothing.
use Rattle.std.specs.Prelude.{◌≡◌, List, ℕ}
use Rattle.octets.specs.Bits.{Bit}
use Rattle.state.specs.declared.Mixed.{Mixed}
use Rattle.state.specs.declared.Solid.{Solid}
use Rattle.state.specs.declared.State.{State}
use Rattle.state.specs.declared.State.TheVariants.{Solid as solid, Mixed as mixed}
use Rattle.field_length.specs.declared.Nth.{Nth}
use Rattle.diagram.specs.declared.Context.{Context}
use Rattle.diagram.specs.declared.Start.{Start}
use Rattle.diagram.specs.Diagram.{arc_bits, Arc, LongestBeginning, ValidContext, after_move, longer, closed}

-- The bits of a move are those of the diagram's arc: out of a mixed state into any state, out of a solid state into any other.
abbrev pub ArcsWritten : Type 0
ArcsWritten =
    ((m : Mixed) (c : State) → Arc (mixed m) c (arc_bits (mixed m) c)) ×
    ((s : Solid) (c : State) → (c ≡ solid s → ⊥) → Arc (solid s) c (arc_bits (solid s) c))

-- Bits have one longest beginning that has a reading.
abbrev pub OneLongest : Type 0
OneLongest = (a : Start) (bs : List Bit) (k j : ℕ) → LongestBeginning a bs k → LongestBeginning a bs j → k ≡ j

-- Lengths from 2 to 7, and X from 0 to 1725, stay so after a move.
abbrev pub ValidAfterMove : Type 0
ValidAfterMove = (c : Context) → ValidContext c → ValidContext (after_move c)

-- And after an all-ones word.
abbrev pub ValidLonger : Type 0
ValidLonger = (s : Solid) (v : ℕ) (c : Context) → ValidContext c → ValidContext (longer s v c)

-- And after a closing word of any value.
abbrev pub ValidClosed : Type 0
ValidClosed = (k : Nth) (s : Solid) (v : ℕ) (c : Context) → ValidContext c → ValidContext (closed k s v c)
