-- `vector_writes::show_white` is safe. Assumes nothing.
use mathlib.Core.Path.{refl}
use native.Mathlib.Omega.{arith}
use Rattle.bitmap.proofs.Pels.{most_some}
use Rattle.vector_writes.proofs.show_white.Goals as goal

pub clear-requires : goal.clear-requires
clear-requires g c = (refl, omega (arith, most_some))
