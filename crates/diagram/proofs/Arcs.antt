-- The bits of a move are those of the diagram's arc. Assumes nothing.
use mathlib.Core.Path.{◌≡◌, refl}
use mathlib.Core.Bool.{false, true≢false}
use lib.Dec.{eqb}
use Rattle.state.specs.declared.Mixed.{Mixed}
use Rattle.state.specs.declared.Mixed.TheVariants.{WB, BW}
use Rattle.state.specs.declared.Solid.{Solid}
use Rattle.state.specs.declared.Solid.TheVariants.{WW, BB}
use Rattle.state.specs.declared.State.{State}
use Rattle.state.specs.declared.State.TheVariants.{Solid as solid, Mixed as mixed}
use Rattle.state.specs.Pels.{pels_of}
use Rattle.diagram.specs.Diagram.{arc_bits, Arc, BW·BW, BW·WB, BW·WW, BW·BB, WB·WB, WB·BW, WB·WW, WB·BB, to_solid, to_mixed}
use Rattle.diagram.specs.Laws.{ArcsWritten}

pub arc_mixed : (m : Mixed) (c : State) → Arc (mixed m) c (arc_bits (mixed m) c)
unfolding arc_bits
arc_mixed BW (mixed BW) = BW·BW
arc_mixed BW (mixed WB) = BW·WB
arc_mixed BW (solid WW) = BW·WW
arc_mixed BW (solid BB) = BW·BB
arc_mixed WB (mixed WB) = WB·WB
arc_mixed WB (mixed BW) = WB·BW
arc_mixed WB (solid WW) = WB·WW
arc_mixed WB (solid BB) = WB·BB

pub arc_solid : (s : Solid) (c : State) → eqb (pels_of c) (pels_of (solid s)) ≡ false → Arc (solid s) c (arc_bits (solid s) c)
unfolding arc_bits
arc_solid WW (solid WW) e = absurd (true≢false e)
arc_solid WW (solid BB) e = to_solid
arc_solid WW (mixed m) e = to_mixed
arc_solid BB (solid WW) e = to_solid
arc_solid BB (solid BB) e = absurd (true≢false e)
arc_solid BB (mixed m) e = to_mixed

pub arcs_written : ArcsWritten
arcs_written = (arc_mixed, (λ s c other. arc_solid s c (apart s c other)))
  where
    apart : (s : Solid) (c : State) → (c ≡ solid s → ⊥) → eqb (pels_of c) (pels_of (solid s)) ≡ false
    apart WW (solid WW) other = absurd (other refl)
    apart WW (solid BB) other = refl
    apart WW (mixed WB) other = refl
    apart WW (mixed BW) other = refl
    apart BB (solid WW) other = refl
    apart BB (solid BB) other = absurd (other refl)
    apart BB (mixed WB) other = refl
    apart BB (mixed BW) other = refl
