-- `chain::states_agree` meets its contract. Assumes nothing.
use mathlib.Core.Path.{refl}
use Rattle.chain.proofs.states_agree.Goals as goal

pub returns-in-At : goal.returns-in-At
returns-in-At c = rw (c.in-At.is, c.pels.ensures.0, c.pels-in-At.ensures.0) refl
