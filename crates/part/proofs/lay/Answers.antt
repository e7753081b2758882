-- `part::lay` meets its contract: what is left to lay is the columns of the entries that are left. Assumes nothing.
use mathlib.Core.Path.{refl}
use native.Mathlib.Omega.{arith}
use borrow.Author.Rules.{rules}
use Rattle.basics.proofs.Writing.{ended, left_all, left_rest, left_on, left_done}
use Rattle.part_notes.proofs.Spread.{lay_length, lay_first, laid}
use Rattle.part.proofs.lay.Goals as goal

pub loop-entry-init : goal.loop-entry-init
loop-entry-init c = left_all _ (omega (arith, c.requires)) refl

pub put_times-requires : goal.put_times-requires
put_times-requires c =
    let n : _ = lay_length c.args.entries.now c.loop-entry.entry-index _ c.loop-entry-test.true refl in
    omega (arith, left_rest c.loop-entry.invariant)

pub loop-entry-preserved : goal.loop-entry-preserved
loop-entry-preserved c = left_on c.loop-entry.invariant _ (lay_first c.args.entries.now c.loop-entry.entry-index c.loop-entry-test.true refl) c.put_times.ensures

pub returns : goal.returns
returns c = ended (left_done c.loop-entry.invariant (laid _ c.loop-entry.entry-index (omega arith))) (search rules)
