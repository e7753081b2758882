-- A column's state as a number of two bits, top pel first, white 0 and black 1. Assumes nothing.
use Rattle.std.specs.Prelude.{ℕ, zero, suc}
use Rattle.state.specs.declared.Mixed.TheVariants.{WB, BW}
use Rattle.state.specs.declared.Solid.TheVariants.{WW, BB}
use Rattle.state.specs.declared.State.{State}
use Rattle.state.specs.declared.State.TheVariants.{Solid as solid, Mixed as mixed}

abbrev pub pels_of : State → ℕ
pels_of (solid WW) = 0
pels_of (mixed WB) = 1
pels_of (mixed BW) = 2
pels_of (solid BB) = 3

abbrev pub state_of : ℕ → State
state_of zero = solid WW
state_of (suc zero) = mixed WB
state_of (suc (suc zero)) = mixed BW
state_of (suc (suc (suc n))) = solid BB
