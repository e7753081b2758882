-- `packing::put_octet` meets its contract. Assumes nothing.
use mathlib.Core.Path.{ap, ◌∙◌}
use mathlib.Core.List.{List}
use Prim.Native.Nat.{ℕ, ◌+◌, ◌-◌, ◌%◌}
use native.Mathlib.Omega.{arith}
use Rattle.octets.specs.Bits.{put_bits, number_bits}
use Rattle.packing.proofs.Octetwise.{put_two}
use Rattle.packing.proofs.put_octet.Goals as goal

pub returns : goal.returns
returns c =
    let a : _ = c.args in
    c.put_within-2.ensures ∙ ap (λ (l : List ℕ). put_bits l (a.at + (8 - a.at % 8)) (number_bits (a.at % 8) a.x)) c.put_within.ensures ∙ put_two a.s.now a.at (a.at % 8) a.x (omega arith)
