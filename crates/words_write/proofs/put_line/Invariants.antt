use mathlib.Core.Path.{◌≡◌}
use Prim.Native.Nat.{◌-◌, ◌*◌, ◌<◌, ◌≤◌}
use lib.ListN.{length}
use Rattle.octets.specs.Bits.{num}
use Rattle.bitmap.specs.Form.{row_at}
use Rattle.words.specs.Words.{runs_of}
use Rattle.words.specs.Lines.{ended_line}
use Rattle.basics.proofs.Writing.{Left}
use Rattle.words_write.proofs.Writes.{row_pel, row_words}
use Rattle.words_write.proofs.put_line.Given as goal

abbrev pub invariant-loop-x : goal.invariant-loop-x
invariant-loop-x l = (l.x ≤ 1726) × (l.s ≤ 3) × (l.x < 1726 → l.s ≡ 3 * num (row_pel l.bitmap l.base l.x))
    × Left (ended_line (row_at l.bitmap l.r)) l.initial.out (row_words l.bitmap l.base (length (runs_of (row_at l.bitmap l.r))) l.x) l.out

abbrev pub decreases-loop-x : goal.decreases-loop-x
decreases-loop-x l = 1726 - l.x
