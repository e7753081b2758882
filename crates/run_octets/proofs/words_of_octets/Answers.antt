-- `run_octets::words_of_octets` meets its contract: what is left to write is the words of the octets that are left. Assumes nothing.
use mathlib.Core.Path.{refl, ap₂, ◌∙◌}
use Prim.Native.Nat.{ℕ, ◌+◌, ◌*◌}
use native.Mathlib.Omega.{arith}
use borrow.Author.Rules.{sfits_of}
use mir.Facts.{to_z-of_z}
use mir.Syntax.{w16}
use Rattle.basics.proofs.Writing.{writing_all, writing_done}
use Rattle.run_octets.specs.Octets.{numbered_word}
use Rattle.run_octets.proofs.Words.{length_words, words_none, words_on}
use Rattle.run_octets.proofs.words_of_octets.Goals as goal

pub loop-i-init : goal.loop-i-init
loop-i-init c = writing_all (omega (arith, length_words c.args.octets.now)) refl

pub loop-i-preserved : goal.loop-i-preserved
loop-i-preserved c = let e : _ = to_z-of_z {w = w16} (sfits_of c.word_of.type_inv) ∙ c.word_of.ensures ∙ ap₂ (λ (a b : ℕ). numbered_word (a + 256 * b)) c.octet-a.ensures c.octet-b.ensures in
    words_on _ c.loop-i-test.true c.loop-i.invariant e

pub returns : goal.returns
returns c = (writing_done c.loop-i.invariant (words_none _ _ c.loop-i-test.false)).1
