-- A page that is written, and captured off the line, is found and read back whole. Proved in proofs/Captured, proofs/Made. Assumes nothing.
use Rattle.std.specs.Prelude.{◌≡◌, List, ◌++◌, ℕ, ◌+◌, ◌*◌, ◌-◌, ◌≤◌, length, replicate}
use Rattle.octets.specs.Bits.{Bit, O, packed}
use Rattle.basics.specs.Placed.{at_front}
use Rattle.refusal.specs.Reply.{gives}
use Rattle.register.specs.declared.Check.{Check}
use Rattle.settings.specs.declared.Settings.{Settings}
use Rattle.writer.specs.Call.{most_columns}
use Rattle.reader.specs.Call.{read_page}
use Rattle.roundtrip.specs.Demand2.{Writable, file_for, page_for}
use Rattle.capture.specs.Frames.{frames_in}
use Rattle.capture.specs.Find.{list_of, find_frames}
use Rattle.capture.specs.Extract.{records_of_frames}
use Rattle.capture_roundtrip.specs.Line.{line_of, Quiet, AllQuiet, Capture, octets_of}

pub record Recovered (c : Check) (rate : ℕ) (bm : List ℕ) (g : Settings) (s : List ℕ) (frames : ℕ) : Type 0 where
  -- as many frames are found as were sent, where the list has room
  pub finds : (list : List ℕ) → 2 * frames ≤ length list → find_frames c s list ≡ (gives frames, at_front (list_of (frames_in c s)) list)
  -- their records are the file, octet for octet
  pub extracts : (o : List ℕ) → length (file_for c rate bm g) ≤ length o →
      records_of_frames s (list_of (frames_in c s)) o ≡ (gives (length (file_for c rate bm g)), at_front (file_for c rate bm g) o)
  -- and the file reads as the page
  pub reads : (rest o : List ℕ) → length bm ≤ length o →
      read_page c (file_for c rate bm g ++ rest) o ≡ (gives (page_for (length (file_for c rate bm g)) (most_columns rate) bm g), at_front bm o)

-- Every page that may be written, and every capture of its file's frames.
abbrev pub CapturedPage : Type 0
CapturedPage = (c : Check) (settings rate : ℕ) (bm : List ℕ) (g : Settings) → Writable c settings rate bm g →
    (s : List ℕ) (gaps : List (List Bit)) (rest : List Bit) → Capture c (file_for c rate bm g) s gaps rest → Recovered c rate bm g s (length gaps)

-- There are such captures: of every file, with any quiet gaps, the bits put into octets, which are filled up with 0.
abbrev pub CaptureMade : Type 0
CaptureMade = (c : Check) (file : List ℕ) (gaps : List (List Bit)) → 76 * length gaps + 2 ≡ length file → AllQuiet gaps →
    Capture c file (packed (octets_of (line_of file gaps)) (line_of file gaps)) gaps (replicate (8 * octets_of (line_of file gaps) - length (line_of file gaps)) O)

-- A gap of zeros is quiet, however long, and so is none.
abbrev pub ZerosQuiet : Type 0
ZerosQuiet = (n : ℕ) → Quiet (replicate n O)
