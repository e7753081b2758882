-- `settings::with_paper` meets its contract: of a number above 2 there is no paper. Assumes nothing.
use Rattle.std.proofs.Common.{◌≡◌, ℕ, zero, suc, ◌<◌, None, refl, arith}
use Rattle.settings.specs.declared.Mode.{Mode}
use Rattle.settings.specs.Settings.{with_paper}
use Rattle.settings.proofs.with_paper.Goals as goal

both : (m : Mode) (p : ℕ) → 2 < p → None ≡ with_paper m p
both m zero h = absurd (omega arith)
both m (suc zero) h = absurd (omega arith)
both m (suc (suc zero)) h = absurd (omega arith)
both m (suc (suc (suc p))) h = refl

pub returns-in_default : goal.returns-in_default
returns-in_default c = both c.args.mode c.args.paper (omega arith)
