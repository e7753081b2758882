-- What is judged before a page is written, and the call: its reply and its output, together; within any largest number of lines, and then
-- this installation's. Assumes nothing.
use Rattle.std.specs.Prelude.{Bool, true, false, cond, ◌&&◌, List, ℕ, ◌+◌, ◌-◌, ◌*◌, eqb, ltb, length, get_or, Option, Some, None, Result, Ok, Err}
use Rattle.refusal.specs.declared.Reason.TheVariants.{SettingsNotAllowed, LastColumnNotEncodable, RequestNotAllowed}
use Rattle.refusal.specs.Number.{number_of}
use Rattle.refusal.specs.Reply.{refuses, Outcome, delivered}
use Rattle.register.specs.declared.Check.{Check}
use Rattle.register.specs.Setting.{allowed_check}
use Rattle.state.specs.declared.Solid.TheVariants.{WW}
use Rattle.state.specs.declared.State.{State}
use Rattle.state.specs.declared.State.TheVariants.{Solid as solid}
use Rattle.settings.specs.Settings.{settings_of}
use Rattle.diagram.specs.Diagram.{move, enters_mixed}
use Rattle.bitmap.specs.Form.{columns_of}
use Rattle.bitmap.specs.Validity.{most_lines, validity_within}
use Rattle.writer.specs.declared.SettingBits.{SettingBits}
use Rattle.writer.specs.declared.judging.Writing.{Writing}
use Rattle.writer_file.specs.File.{file_of}
use Rattle.refusal.specs.declared.Reason.{Reason}
use Rattle.settings.specs.declared.Settings.{Settings}

-- a frame that has more columns is closed: at 2400, 4800 and 9600 bits a second; at no other rate is anything written
unfoldable pub most_columns : ℕ → ℕ
most_columns rate = cond (eqb rate 2400) 9600 (cond (eqb rate 4800) 4800 (cond (eqb rate 9600) 2400 0))

-- the same, and none at a rate that is not one of the three
unfoldable pub columns_at : ℕ → Option ℕ
columns_at rate = cond (ltb 0 (most_columns rate)) (Some (most_columns rate)) None

-- an allowed check setting that compares, and one of the three rates: 20
unfoldable pub request_allowed : Check → ℕ → Bool
request_allowed c rate = allowed_check c && (c.compare && ltb 0 (most_columns rate))

-- the most columns of a frame, where the request is allowed
unfoldable pub requested : Check → ℕ → Option ℕ
requested c rate = cond (request_allowed c rate) (Some (most_columns rate)) None

-- whether the last column is mixed while the one before it is solid: a single 1 would enter it, end the page and leave it open
unfoldable pub not_encodable : List State → Bool
not_encodable cs = enters_mixed (move (get_or cs (length cs - 2) (solid WW)) (get_or cs (length cs - 1) (solid WW)))

-- 17 and 18 as the bitmap is judged, then 6, then 19
abbrev pub fit : Result Unit Reason → Option Settings → Bool → Result Settings Reason
fit (Err reason) chosen last = Err reason
fit (Ok _) None last = Err SettingsNotAllowed
fit (Ok _) (Some g) last = cond last (Err LastColumnNotEncodable) (Ok g)

-- settings as the number of their four bits: speed 8, detail 4, 14 inch 2, 5.5 inch 1
unfoldable pub judge_page_within : ℕ → Check → ℕ → ℕ → List ℕ → Result Settings Reason
judge_page_within most c settings rate bm = cond (request_allowed c rate) (fit (validity_within most bm) (settings_of settings) (not_encodable (columns_of bm))) (Err RequestNotAllowed)

abbrev pub judge_page : Check → ℕ → ℕ → List ℕ → Result Settings Reason
judge_page c settings rate bm = judge_page_within most_lines c settings rate bm

-- what a page is written by, where it is fit: its settings, and the most columns of a frame at the rate
abbrev pub with_columns : ℕ → Result Settings Reason → Result Writing Reason
with_columns rate (Err reason) = Err reason
with_columns rate (Ok g) = Ok (record { settings = g; most = most_columns rate })

-- ---- the call

-- a page has no records yet: every refusal falls at record 0
abbrev pub if_fit : Result Settings Reason → Check → ℕ → List State → List ℕ → Outcome ℕ ℕ
if_fit (Err reason) c most cs o = (refuses (number_of reason) 0, o)
if_fit (Ok g) c most cs o = delivered (length (file_of c g most cs)) 0 (file_of c g most cs) o

unfoldable pub write_page_within : ℕ → Check → ℕ → ℕ → List ℕ → List ℕ → Outcome ℕ ℕ
write_page_within most c settings rate bm o = if_fit (judge_page_within most c settings rate bm) c (most_columns rate) (columns_of bm) o

abbrev pub write_page : Check → ℕ → ℕ → List ℕ → List ℕ → Outcome ℕ ℕ
write_page c settings rate bm o = write_page_within most_lines c settings rate bm o

-- four bits as a number
abbrev pub bit_number : Bool → ℕ
bit_number true = 1
bit_number false = 0

abbrev pub settings_number : SettingBits → ℕ
settings_number b = 8 * bit_number b.speed + (4 * bit_number b.detail + (2 * bit_number b.fourteen + bit_number b.five_and_half))
