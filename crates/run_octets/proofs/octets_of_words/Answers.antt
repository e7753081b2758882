-- `run_octets::octets_of_words` meets its contract: what is left to write is the octets of the words that are left. Assumes nothing.
use borrow.Author.Rules.{rules}
use mathlib.Core.Path.{refl}
use native.Mathlib.Omega.{arith}
use lib.IntN.{pos}
use lib.ListN.{get_or}
use Rattle.basics.proofs.Writing.{writing_all, writing_done}
use Rattle.run_octets.proofs.Words.{length_octets, octets_none, octets_on}
use Rattle.run_octets.proofs.Signs.{number_is}
use Rattle.run_octets.proofs.octets_of_words.Goals as goal

pub loop-i-init : goal.loop-i-init
loop-i-init c = writing_all (omega (arith, length_octets c.args.words.now)) refl

pub loop-i-preserved : goal.loop-i-preserved
loop-i-preserved c = let l : _ = c.loop-i in
    let z : _ = get_or c.args.words.now l.i (pos 0) in
    octets_on _ c.loop-i-test.true l.invariant (number_is z (search rules) c.number-v.ensures.0)

pub returns : goal.returns
returns c = (writing_done c.loop-i.invariant (octets_none _ _ c.loop-i-test.false)).1
