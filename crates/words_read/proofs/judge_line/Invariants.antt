use mathlib.Core.Path.{◌≡◌}
use Prim.Native.Nat.{◌≤◌}
use lib.ListN.{drop}
use Rattle.words_read.specs.Scan.{empty_line, scan_line}
use Rattle.words_read.proofs.judge_line.Given as goal

abbrev pub invariant-loop-i : goal.invariant-loop-i
invariant-loop-i l = (scan_line (drop l.i l.words) l.line l.i ≡ scan_line l.words empty_line 0) × (l.line.pels ≤ 1726)
