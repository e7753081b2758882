-- `frame::turned` meets its contract: the octets written are the ones turned. Assumes nothing.
use mathlib.Core.Path.{sym, ◌∙◌}
use Prim.Native.Nat.{◌<◌}
use native.Mathlib.Nat.{zero-add}
use native.Mathlib.Omega.{arith}
use lib.Seq.{ext_get_or}
use Rattle.turning.specs.Turned.{turned_from}
use Rattle.turning.proofs.Turned.{length_turned, at_turned}
use Rattle.frame.proofs.turned.Goals as goal

pub returns : goal.returns
returns c = let l : _ = c.loop-i in
    ext_get_or 0 l.x-items (turned_from c.args.frame.now 0 74) (l.invariant.0 ∙ sym (length_turned _ 0 74)) λ k h.
    let m : k < 74 = omega (arith, l.invariant.0) in
    l.invariant.1 k (omega arith) ∙ sym (at_turned c.args.frame.now 0 74 k m ∙ rw (zero-add k))
