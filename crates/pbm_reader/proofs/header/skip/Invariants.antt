use mathlib.Core.Path.{◌≡◌}
use lib.ListN.{drop}
use Rattle.pbm.specs.Header.{skip_from, skipped}
use Rattle.pbm_reader.proofs.header.skip.Given as goal

abbrev pub invariant-loop-i : goal.invariant-loop-i
invariant-loop-i l = skip_from l.comment (drop l.i l.file) ≡ skipped (drop l.at l.file)
