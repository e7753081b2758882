-- What the C call that writes a page file returns, and what it leaves in the output and in the answer. Assumes nothing.
use Rattle.std.specs.Prelude.{List, [], ◌∷◌, ℕ}
use Rattle.writer.specs.Call.{write_page}
use Rattle.c_refusal.specs.Returned.{Returned, returned}
use Rattle.c_check.specs.Setting.{check_setting_of, if_check}

-- of a bitmap, settings, rate, a check setting, the output that was and the answer that was: the answer is the octets written
unfoldable pub exported_writing : List ℕ → ℕ → ℕ → List ℕ → List ℕ → List ℕ → Returned ℕ
exported_writing bm settings rate c o answer = if_check c o answer (returned (λ n. n ∷ []) (write_page (check_setting_of c) settings rate bm o) answer)
