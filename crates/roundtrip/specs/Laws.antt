-- What else holds of writing and reading together. Assumes nothing.
use Rattle.std.specs.Prelude.{◌≡◌, true, false, List, ◌++◌, ℕ, ◌+◌, ◌*◌, ◌<◌, ◌≤◌, length, Some}
use Rattle.basics.specs.Octets.{Octets}
use Rattle.basics.specs.Placed.{at_front}
use Rattle.refusal.specs.Reply.{gives}
use Rattle.register.specs.declared.Check.{Check}
use Rattle.register.specs.Setting.{allowed_check}
use Rattle.state.specs.declared.State.{State}
use Rattle.settings.specs.declared.Settings.{Settings}
use Rattle.settings.specs.Settings.{settings_of}
use Rattle.position.specs.Position.{pels_per_line}
use Rattle.bitmap.specs.Form.{lines_of}
use Rattle.bitmap.specs.Validity.{most_lines}
use Rattle.writer_fill.specs.Frames.{frames_of}
use Rattle.writer_file.specs.File.{file_of}
use Rattle.writer.specs.Call.{most_columns, not_encodable, write_page}
use Rattle.reader_progress.specs.declared.Page.{Page}
use Rattle.reader_judge.specs.File.{page, file_reading}
use Rattle.reader.specs.Call.{read_page}
use Rattle.roundtrip.specs.Sizes.{bits_in}
use Rattle.roundtrip.specs.Demand2.{Writable, file_for, page_for}

-- What `write_page` leaves in its output, `read_page` with room accepts, and gives the settings and the bitmap that were handed in.
pub record ReadBack (c : Check) (settings rate : ℕ) (bm : List ℕ) (n : ℕ) (written q : List ℕ) : Type 0 where
  pub chosen : Settings
  pub allowed_settings : settings_of settings ≡ Some chosen
  pub reads : read_page c written q ≡ (gives (page_for n (most_columns rate) bm chosen), at_front bm q)

abbrev pub WrittenRead : Type 0
WrittenRead = (c : Check) (settings rate : ℕ) (bm o : List ℕ) (n : ℕ) (o' : List ℕ) → Octets bm → write_page c settings rate bm o ≡ (gives n, o') →
    (q : List ℕ) → length bm ≤ length q → ReadBack c settings rate bm n o' q

-- A reading setting that does not compare gives the same page, whatever setting r it is and c the file was written by.
abbrev pub ReadUncompared : Type 0
ReadUncompared = (r c : Check) (settings rate : ℕ) (bm : List ℕ) (g : Settings) → allowed_check r ≡ true → r.compare ≡ false → Writable c settings rate bm g → (rest o : List ℕ) → length bm ≤ length o →
    read_page r (file_for c rate bm g ++ rest) o ≡ (gives (page_for (length (file_for c rate bm g)) (most_columns rate) bm g), at_front bm o)

-- The same on columns: what the file of any columns says, whatever stands behind it, is the page, its settings, its bits, and every column in order.
abbrev pub FileSays : Type 0
FileSays = (c : Check) → allowed_check c ≡ true → (g : Settings) (most pairs : ℕ) (cs : List State) (rest : List ℕ) → 0 < pairs → 2 * pairs ≤ most_lines → length cs ≡ pels_per_line * pairs → not_encodable cs ≡ false →
    file_reading c (file_of c g most cs ++ rest) ≡
    page (record { octets = length (file_of c g most cs); lines = 2 * pairs; settings = g; bits = record { 0 = bits_in (frames_of most cs) }; columns = record { 0 = length cs } }) cs

-- 19 is exact: no file says a page that is refused by it.
abbrev pub NoneEncodes : Type 0
NoneEncodes = (r : Check) (file : List ℕ) (t : Page) (cs : List State) → file_reading r file ≡ page t cs → not_encodable cs ≡ false

-- Whoever lends 551 octets a line and 230 is not refused by 16: a page that may be written is written.
abbrev pub RoomSuffices : Type 0
RoomSuffices = (c : Check) (settings rate : ℕ) (bm : List ℕ) (g : Settings) → Writable c settings rate bm g → (o : List ℕ) → 551 * lines_of bm + 230 ≤ length o →
    write_page c settings rate bm o ≡ (gives (length (file_for c rate bm g)), at_front (file_for c rate bm g) o)
