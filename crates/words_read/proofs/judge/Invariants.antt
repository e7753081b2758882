use mathlib.Core.Path.{◌≡◌}
use Prim.Native.Nat.{◌≤◌}
use lib.ListN.{drop}
use Rattle.words_read.specs.Scan.{empty_line, scan}
use Rattle.words_read.proofs.judge.Given as goal

abbrev pub invariant-loop-i : goal.invariant-loop-i
invariant-loop-i l = (scan (drop l.i l.words) l.line l.lines l.i ≡ scan l.words empty_line 0 0) × (l.line.pels ≤ 1726) × (l.lines ≤ l.i)
