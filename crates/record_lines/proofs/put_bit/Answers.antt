-- `record_lines::put_bit` meets its contract: the word of 11, and nothing for any other number. Assumes nothing.
use mathlib.Core.Path.{◌≡◌, refl, sym, ◌∙◌}
use mathlib.Core.List.{[]}
use Prim.Native.Nat.{ℕ}
use borrow.Author.Tests.{ne_eqb}
use Rattle.basics.proofs.Writing.{writes_none}
use Rattle.text.specs.Text.{codes}
use denote.Enum.Bare.{same_true, same_false}
use borrow.Author.Rules.{rules}
use Rattle.refusal.specs.contracts.Reason.{the_type}
use Rattle.refusal.specs.declared.Reason.{Reason}
use Rattle.refusal.specs.declared.Reason.TheVariants.{NoReading}
use Rattle.refusal.specs.Number.{number_of}
use Rattle.refusal.proofs.Numbers.{eleven}
use Rattle.record_lines.specs.Lines.{named, bit_word}
use Rattle.record_lines.proofs.put_bit.Goals.{Then-eq}
use Rattle.record_lines.proofs.put_bit.Goals as goal

word : (reason : Reason) (b : ℕ) → reason ≡ NoReading → bit_word (number_of reason) b ≡ named " bit " b
unfolding bit_word
word reason b e = rw e refl

no_word : (reason : Reason) (b : ℕ) → (reason ≡ NoReading → ⊥) → bit_word (number_of reason) b ≡ []
unfolding bit_word
no_word reason b h = rw (ne_eqb (number_of reason) 11 (λ z. h (eleven reason z))) refl

is-11 : (c : Then-eq) → c.args.refusal.reason ≡ NoReading
is-11 c = same_true the_type (search rules) _ _ (sym c.eq.ensures ∙ c.if-eq.true)

pub put_named-requires : goal.put_named-requires
unfolding codes
put_named-requires c = rw (word _ c.args.refusal.bit (is-11 (goal.at.put_named-requires c).Then-eq)) at c.requires

pub returns-then-eq : goal.returns-then-eq
unfolding codes
returns-then-eq c = rw (word _ c.args.refusal.bit (is-11 (goal.at.returns-then-eq c).Then-eq)) c.put_named.ensures

pub returns-else-eq : goal.returns-else-eq
returns-else-eq c = rw (no_word _ c.args.refusal.bit (same_false the_type _ _ (sym c.eq.ensures ∙ c.if-eq.false))) (writes_none _)
