-- `vector_frames::show` is safe: the setting that it hands in is allowed. Assumes nothing.
use mathlib.Core.Path.{refl}
use Rattle.register.specs.Setting.{allowed_check}
use Rattle.register.proofs.Setting.{made}
use Rattle.vector_frames.proofs.show.Goals as goal

pub unwrap-checker-requires : goal.unwrap-checker-requires
unfolding allowed_check
unwrap-checker-requires g c = made c.recorded.result _ c.new.ensures (rw c.recorded.ensures refl)
