-- What the C calls on captures return, and what they leave in what they were lent and in the answer. Assumes nothing.
use Rattle.std.specs.Prelude.{List, [], ◌∷◌, ℕ}
use Rattle.c_refusal.specs.Returned.{Returned, returned}
use Rattle.c_check.specs.Setting.{check_setting_of, if_check}
use Rattle.capture.specs.Find.{find_frames}
use Rattle.capture.specs.Extract.{records_of_frames}

-- of a capture, a check setting, the list that was and the answer that was: the answer is the number of frames
unfoldable pub exported_finding : List ℕ → List ℕ → List ℕ → List ℕ → Returned ℕ
exported_finding s c o answer = if_check c o answer (returned (λ n. n ∷ []) (find_frames (check_setting_of c) s o) answer)

-- of a capture, a list of its frames, the output that was and the answer that was: the answer is the number of octets
unfoldable pub exported_records : List ℕ → List ℕ → List ℕ → List ℕ → Returned ℕ
exported_records s list o answer = returned (λ n. n ∷ []) (records_of_frames s list o) answer
