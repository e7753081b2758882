-- What the C call that reads a page file returns, and what it leaves in the output and in the answer. Assumes nothing.
use Rattle.std.specs.Prelude.{List, [], ◌∷◌, ℕ}
use Rattle.settings.specs.Settings.{settings_number}
use Rattle.reader_progress.specs.declared.Page.{Page}
use Rattle.reader.specs.Call.{read_page}
use Rattle.c_refusal.specs.Returned.{Returned, returned}
use Rattle.c_check.specs.Setting.{check_setting_of, if_check}

-- octets used, lines, settings, data bits, columns
abbrev pub page_numbers : Page → List ℕ
page_numbers t = t.octets ∷ t.lines ∷ settings_number t.settings ∷ t.bits.0 ∷ t.columns.0 ∷ []

-- of a file, a check setting, the output that was and the answer that was
unfoldable pub exported_page : List ℕ → List ℕ → List ℕ → List ℕ → Returned ℕ
exported_page file c o answer = if_check c o answer (returned page_numbers (read_page (check_setting_of c) file o) answer)
