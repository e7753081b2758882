use mathlib.Core.Path.{◌≡◌}
use Prim.Native.Nat.{◌+◌, ◌-◌, ◌≤◌, min}
use lib.ListN.{length, drop}
use Rattle.text.specs.Text.{digits_value_from}
use Rattle.pbm.specs.Header.{digits, number_in}
use Rattle.pbm_reader.proofs.header.number.Given as goal

abbrev pub invariant-loop-value : goal.invariant-loop-value
invariant-loop-value l = (l.value ≤ 65536) × (l.i ≤ length l.file) × (min (digits_value_from l.value (digits (drop l.i l.file))) 65536 ≡ number_in (drop l.at l.file))
    × (l.i + length (digits (drop l.i l.file)) ≡ l.at + length (digits (drop l.at l.file)))

abbrev pub decreases-loop-value : goal.decreases-loop-value
decreases-loop-value l = length l.file - l.i
