use Rattle.std.proofs.Common.{◌≡◌, ◌≤◌, ◌-◌, ◌*◌, length}
use Rattle.walker.specs.Walk.{place_of}
use Rattle.tool_records.proofs.show_records.Given as goal

-- the walker stands where so many steps lead in the file that it holds
abbrev pub invariant-loop-w : goal.invariant-loop-w
invariant-loop-w l = (l.w.file.now ≡ l.file) × (l.w.at ≡ place_of l.c l.file l.k) × (76 * l.k ≤ length l.file)

abbrev pub decreases-loop-w : goal.decreases-loop-w
decreases-loop-w l = length l.file - 76 * l.k
