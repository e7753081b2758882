-- `frame_parse::sync_agrees` meets its contract. Assumes nothing.
use mathlib.Core.Path.{ap}
use Prim.Native.Nat.{ℕ}
use lib.Dec.{eqb}
use Rattle.frame.specs.Layout.{sync_number, sync_agrees}
use Rattle.frame_parse.proofs.sync_agrees.Goals as goal

pub returns : goal.returns
unfolding sync_agrees
returns c = ap (λ (n : ℕ). eqb n sync_number) c.number.ensures.0
