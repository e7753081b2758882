use Rattle.std.proofs.Common.{◌≤◌}
use Rattle.tool_words.proofs.values.number_of.Given as goal

abbrev pub invariant-loop-c : goal.invariant-loop-c
invariant-loop-c l = l.value ≤ 1000000000
