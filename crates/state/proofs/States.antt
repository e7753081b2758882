-- A state and its number say the same. Assumes nothing.
use mathlib.Core.Path.{◌≡◌, refl}
use Prim.Native.Nat.{ℕ, zero, suc, ◌<◌}
use native.Mathlib.Omega.{arith}
use lib.Dec.{lit<}
use Rattle.state.specs.declared.Mixed.TheVariants.{WB, BW}
use Rattle.state.specs.declared.Solid.TheVariants.{WW, BB}
use Rattle.state.specs.declared.State.{State}
use Rattle.state.specs.declared.State.TheVariants.{Solid as solid, Mixed as mixed}
use Rattle.state.specs.Pels.{pels_of, state_of}

pub pels_lt : (s : State) → pels_of s < 4
pels_lt (solid WW) = lit< tt
pels_lt (mixed WB) = lit< tt
pels_lt (mixed BW) = lit< tt
pels_lt (solid BB) = lit< tt

pub state_pels : (s : State) → state_of (pels_of s) ≡ s
state_pels (solid WW) = refl
state_pels (mixed WB) = refl
state_pels (mixed BW) = refl
state_pels (solid BB) = refl

pub state_high : (n : ℕ) → 2 < n → state_of n ≡ solid BB
state_high zero h = absurd (omega arith)
state_high (suc zero) h = absurd (omega arith)
state_high (suc (suc zero)) h = absurd (omega arith)
state_high (suc (suc (suc n))) h = refl

pub pels_state : (n : ℕ) → n < 4 → pels_of (state_of n) ≡ n
pels_state zero h = refl
pels_state (suc zero) h = refl
pels_state (suc (suc zero)) h = refl
pels_state (suc (suc (suc zero))) h = refl
pels_state (suc (suc (suc (suc n)))) h = absurd (omega arith)
