-- `settings::settings_of` meets its contract: of a number above 2 there is no mode. Assumes nothing.
use Rattle.std.proofs.Common.{◌≡◌, ℕ, zero, suc, ◌<◌, ◌/◌, ◌%◌, None, refl, sym, ◌∙◌, arith}
use Rattle.settings.specs.Settings.{settings_of, with_mode}
use Rattle.settings.proofs.settings_of.Goals as goal

both : (m p : ℕ) → 2 < m → None ≡ with_mode m p
both zero p h = absurd (omega arith)
both (suc zero) p h = absurd (omega arith)
both (suc (suc zero)) p h = absurd (omega arith)
both (suc (suc (suc m))) p h = refl

chosen : (n m : ℕ) → n / 4 ≡ m → settings_of n ≡ with_mode m (n % 4)
unfolding settings_of
chosen n m e = rw e

pub returns-in-0 : goal.returns-in-0
returns-in-0 c = c.with_paper.ensures ∙ sym (chosen _ 0 c.in-0.is)

pub returns-in-1 : goal.returns-in-1
returns-in-1 c = c.with_paper-in-1.ensures ∙ sym (chosen _ 1 c.in-1.is)

pub returns-in-2 : goal.returns-in-2
returns-in-2 c = c.with_paper-in-2.ensures ∙ sym (chosen _ 2 c.in-2.is)

pub returns-in_default : goal.returns-in_default
returns-in_default c = let n : ℕ = c.args.n in both (n / 4) (n % 4) (omega arith) ∙ sym (chosen n (n / 4) refl)
