-- `turning::turning` meets its contract. Assumes nothing.
use Rattle.turning.proofs.Turned.{entry, entries}
use Rattle.turning.proofs.turning.Goals as goal

pub returns : goal.returns
unfolding entries
returns c = entry
