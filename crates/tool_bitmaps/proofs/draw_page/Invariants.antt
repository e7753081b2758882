use Rattle.std.proofs.Common.{◌≤◌}
use Rattle.tool_bitmaps.proofs.draw_page.Given as goal

abbrev pub invariant-loop : goal.invariant-loop
invariant-loop l = (l.d.lines ≤ 65536) × (l.d.held ≤ 32768)
