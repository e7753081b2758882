-- `tool_records::show_found` is safe: the line has room. Assumes nothing.
use native.Mathlib.Omega.{arith}
use Rattle.basics.proofs.Writing.{room_left}
use Rattle.tool_records.proofs.Room.{found_short}
use Rattle.tool_records.proofs.show_found.Goals as goal

pub put_found-requires : goal.put_found-requires
put_found-requires c = omega (arith, found_short c.args.k c.ranges.k.fits c.args.found _ c.well_formed.1.0)

pub since-requires : goal.since-requires
since-requires c = (omega arith, omega (arith, room_left 0 (omega (arith, found_short c.args.k c.ranges.k.fits c.args.found _ c.well_formed.1.0)) c.put_found.ensures))
