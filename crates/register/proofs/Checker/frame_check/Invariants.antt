use Rattle.std.proofs.Common.{◌≡◌, ◌-◌, ◌*◌, ◌<◌}
use Rattle.octets.specs.Bits.{bits_from}
use Rattle.register.specs.Register.{register_after}
use Rattle.register.specs.Setting.{frame_check}
use Rattle.register.proofs.Checker.frame_check.Given as goal

abbrev pub invariant-loop-i : goal.invariant-loop-i
invariant-loop-i l = (l.r < 4096) × (register_after l.c.generator l.r (bits_from l.s (8 * l.i) (573 - 8 * l.i)) ≡ frame_check l.c l.s)
