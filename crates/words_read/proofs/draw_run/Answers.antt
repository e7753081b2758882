-- `words_read::draw_run` meets its contract. Assumes nothing.
use mathlib.Core.Path.{ap}
use Prim.Native.Nat.{ℕ, ◌+◌}
use native.Mathlib.Omega.{arith}
use Rattle.octets.proofs.Fields.{num_lt}
use Rattle.words.specs.Words.{colour_of}
use Rattle.words_read.proofs.Taking.{size_is, colour_is, inked_by}
use Rattle.words_read.proofs.draw_run.Goals as goal

pub overflow_add-end : goal.overflow_add-end
overflow_add-end c = let s : _ = c in omega (arith, size_is s.ranges.word c.size.ensures)

pub set_if_black-requires : goal.set_if_black-requires
set_if_black-requires c = let s : _ = c in
    omega (arith, size_is s.ranges.word c.size.ensures, c.colour.ensures, num_lt (colour_of s.args.word), colour_is s.ranges.word c.colour.ensures)

pub shape_of-out : goal.shape_of-out
shape_of-out c = c.set_if_black.auto.out

pub returns : goal.returns
returns c = let s : _ = c in
    let n : _ = size_is s.ranges.word c.size.ensures in
    (ap (λ (k : ℕ). s.args.at + k) n, inked_by (colour_is s.ranges.word c.colour.ensures) n c.set_if_black.ensures)
