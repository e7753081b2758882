-- Settings as the four bits speed, detail, 14 inch, 5.5 inch of a set-up frame. Assumes nothing.
-- Speed and detail both 0 is quality; no paper bit is 11 inch; both bits of a pair are not allowed.
use Rattle.std.specs.Prelude.{ℕ, zero, suc, ◌+◌, ◌*◌, ◌/◌, ◌%◌, Option, Some, None}
use Rattle.settings.specs.declared.Mode.{Mode}
use Rattle.settings.specs.declared.Mode.TheVariants.{Quality, Detail, Express}
use Rattle.settings.specs.declared.Paper.{Paper}
use Rattle.settings.specs.declared.Paper.TheVariants.{Eleven, FiveAndHalf, Fourteen}
use Rattle.settings.specs.declared.Settings.{Settings}

-- the paper of the bits 14 inch, 5.5 inch
abbrev pub with_paper : Mode → ℕ → Option Settings
with_paper m zero = Some (record { mode = m; paper = Eleven })
with_paper m (suc zero) = Some (record { mode = m; paper = FiveAndHalf })
with_paper m (suc (suc zero)) = Some (record { mode = m; paper = Fourteen })
with_paper m (suc (suc (suc p))) = None

-- the mode of the bits speed, detail
abbrev pub with_mode : ℕ → ℕ → Option Settings
with_mode zero p = with_paper Quality p
with_mode (suc zero) p = with_paper Detail p
with_mode (suc (suc zero)) p = with_paper Express p
with_mode (suc (suc (suc m))) p = None

-- the settings of speed 8, detail 4, 14 inch 2, 5.5 inch 1
unfoldable pub settings_of : ℕ → Option Settings
settings_of n = with_mode (n / 4) (n % 4)

abbrev pub mode_number : Mode → ℕ
mode_number Quality = 0
mode_number Detail = 1
mode_number Express = 2

abbrev pub paper_number : Paper → ℕ
paper_number Eleven = 0
paper_number FiveAndHalf = 1
paper_number Fourteen = 2

abbrev pub settings_number : Settings → ℕ
settings_number s = 4 * mode_number s.mode + paper_number s.paper
