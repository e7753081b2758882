-- `tool_bitmaps::save_page` is safe: two octets hold the number of lines. Assumes nothing.
use mathlib.Core.Path.{sym, ◌∙◌}
use native.Mathlib.Omega.{arith}
use Rattle.bitmap.proofs.Pels.{most_small}
use Rattle.bitmap.proofs.Taken.{lines_are}
use Rattle.tool_bitmaps.proofs.save_page.Goals as goal

pub put_sizes-requires : goal.put_sizes-requires
put_sizes-requires c = (omega arith, omega (arith, (lines_are _ (sym c.lines_allowed.ensures ∙ c.if-not-lines_allowed.false)).few, most_small))
