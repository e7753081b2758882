-- `state::with_pels` meets its contract. Assumes nothing.
use Rattle.std.proofs.Common.{sym, arith}
use Rattle.state.proofs.States.{state_high}
use Rattle.state.proofs.with_pels.Goals as goal

pub returns-in_default : goal.returns-in_default
returns-in_default c = sym (state_high c.args.n (omega arith))
