-- `c_refusal::refusal_code` meets its contract. Assumes nothing.
use mathlib.Core.Path.{ap}
use Prim.Native.Nat.{ℕ, ◌+◌, ◌*◌}
use Rattle.c_refusal.proofs.refusal_code.Goals as goal

pub returns : goal.returns
returns c = ap (λ (n : ℕ). n + 256 * c.args.refusal.bit + 16777216 * c.args.refusal.«record») c.from.ensures.0
