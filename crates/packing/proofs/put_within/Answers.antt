-- `packing::put_within` meets its contract. Assumes nothing.
use mathlib.Core.Path.{sym, ap, ◌∙◌}
use Prim.Native.Nat.{◌/◌, ◌-◌, ◌%◌}
use native.Mathlib.Omega.{arith}
use lib.ListN.{set}
use lib.Seq.{set_out}
use Rattle.packing.proofs.Octetwise.{put_within}
use Rattle.packing.proofs.put_within.Goals as goal

pub returns-then-o-s : goal.returns-then-o-s
returns-then-o-s c =
    let a : _ = c.args in
    ap (set a.s.now (a.at / 8)) c.with_bits.ensures ∙ sym (put_within a.s.now (a.at / 8) (8 - a.n - a.at % 8) a.n a.v a.at (omega arith) (omega arith))

pub returns-else-o-s : goal.returns-else-o-s
returns-else-o-s c =
    let a : _ = c.args in
    sym (put_within a.s.now (a.at / 8) (8 - a.n - a.at % 8) a.n a.v a.at (omega arith) (omega arith) ∙ set_out _ _ _ c.if-o-s.false)
