-- `tool_captures::show_count` is safe: the line has room. Assumes nothing.
use native.Mathlib.Omega.{arith}
use Rattle.basics.proofs.Writing.{room_left}
use Rattle.tool_captures.proofs.Lengths.{count_short}
use Rattle.tool_captures.proofs.show_count.Goals as goal

pub put_count-requires : goal.put_count-requires
put_count-requires c = omega (arith, count_short c.args.n c.ranges.n.fits)

pub since-requires : goal.since-requires
since-requires c = (omega arith, omega (arith, room_left 0 (omega (arith, count_short c.args.n c.ranges.n.fits)) c.put_count.ensures))
