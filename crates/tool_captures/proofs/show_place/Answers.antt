-- `tool_captures::show_place` is safe: the line has room. Assumes nothing.
use native.Mathlib.Omega.{arith}
use Rattle.basics.proofs.Writing.{room_left}
use Rattle.tool_captures.proofs.Lengths.{place_short}
use Rattle.tool_captures.proofs.show_place.Goals as goal

pub put_place-requires : goal.put_place-requires
put_place-requires c = omega (arith, place_short c.args.octet c.args.bit c.ranges.octet.fits c.ranges.bit.fits)

pub since-requires : goal.since-requires
since-requires c = (omega arith, omega (arith, room_left 0 (omega (arith, place_short c.args.octet c.args.bit c.ranges.octet.fits c.ranges.bit.fits)) c.put_place.ensures))
