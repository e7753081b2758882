-- Demand 2, whole: what is written reads back. `write_page` and `read_page` are what the two calls promise, and nothing else stands here.
-- Assumes nothing.
use Rattle.std.specs.Prelude.{◌≡◌, true, false, List, ◌++◌, ℕ, ◌*◌, ◌≤◌, length, Some}
use Rattle.basics.specs.Octets.{Octets}
use Rattle.basics.specs.Placed.{at_front}
use Rattle.refusal.specs.Reply.{gives, valid}
use Rattle.register.specs.declared.Check.{Check}
use Rattle.settings.specs.declared.Settings.{Settings}
use Rattle.settings.specs.Settings.{settings_of}
use Rattle.position.specs.Position.{columns_per_line}
use Rattle.bitmap.specs.Form.{lines_of, columns_of}
use Rattle.bitmap.specs.Validity.{bitmap_validity}
use Rattle.writer_fill.specs.Frames.{frames_of}
use Rattle.writer_file.specs.File.{file_of}
use Rattle.writer.specs.Call.{most_columns, request_allowed, not_encodable, write_page}
use Rattle.reader_progress.specs.declared.Page.{Page}
use Rattle.reader.specs.Call.{read_page}
use Rattle.roundtrip.specs.Sizes.{bits_in}

-- What may be written: every page of 1726 columns and of 2 to the largest even number of lines whose last column can be encoded, every allowed
-- check setting that compares and each of the three rates, and the settings g, handed in as a number.
pub record Writable (c : Check) (settings rate : ℕ) (bm : List ℕ) (g : Settings) : Type 0 where
  pub octets : Octets bm
  pub request : request_allowed c rate ≡ true
  pub bitmap : bitmap_validity bm ≡ valid
  pub chosen : settings_of settings ≡ Some g
  pub last : not_encodable (columns_of bm) ≡ false

-- the file, by the one stated rule
abbrev pub file_for : Check → ℕ → List ℕ → Settings → List ℕ
file_for c rate bm g = file_of c g (most_columns rate) (columns_of bm)

-- what is read of it: all its octets are used, and lines, settings, data bits and columns are the page's
abbrev pub page_for : ℕ → ℕ → List ℕ → Settings → Page
page_for octets most bm g = record { octets = octets; lines = lines_of bm; settings = g; bits = record { 0 = bits_in (frames_of most (columns_of bm)) }; columns = record { 0 = columns_per_line * lines_of bm } }

pub record Demand2 (c : Check) (settings rate : ℕ) (bm : List ℕ) (g : Settings) : Type 0 where
  -- the file is written, where there is room
  pub writes : (o : List ℕ) → length (file_for c rate bm g) ≤ length o →
      write_page c settings rate bm o ≡ (gives (length (file_for c rate bm g)), at_front (file_for c rate bm g) o)
  -- and read, whatever stands behind it: the settings are g, and the page is the bitmap, octet for octet
  pub reads : (rest o : List ℕ) → length bm ≤ length o →
      read_page c (file_for c rate bm g ++ rest) o ≡ (gives (page_for (length (file_for c rate bm g)) (most_columns rate) bm g), at_front bm o)

abbrev pub Demand2Whole : Type 0
Demand2Whole = (c : Check) (settings rate : ℕ) (bm : List ℕ) (g : Settings) → Writable c settings rate bm g → Demand2 c settings rate bm g
