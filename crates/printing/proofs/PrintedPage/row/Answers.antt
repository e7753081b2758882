-- `printing::PrintedPage::row` meets its contract: the row stands at its place, and has all its octets. Assumes nothing.
use mathlib.Core.Path.{◌≡◌, sym}
use Prim.Native.Nat.{ℕ, ◌+◌, ◌-◌}
use native.Mathlib.Omega.{arith}
use Rattle.printing.proofs.Rows.{printed_row, long_row}
use Rattle.printing.proofs.PrintedPage.row.Goals as goal

pub returns : goal.returns
returns c =
    let p : _ = c.args.self.now in
    let from : ℕ = c.row_place-from.result in
    let e : from + 216 - from ≡ 216 = omega arith in
    rw (e, c.row_place-from.ensures) (sym (printed_row p.times p.lines c.args.k c.requires p.bitmap.now), long_row p.times p.lines c.args.k c.requires p.bitmap.now p.has_lines)
