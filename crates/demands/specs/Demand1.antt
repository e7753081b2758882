-- Demand 1, whole: the public calls that are lent something to write into, and what each owes for it. Any values may be handed in: none of these has a
-- premise, and none of the calls a `requires`. What is owed is `refusal` `Demand1.Owed`: a refusal is by a number of the list, at a record's place, with a
-- bit that is 0 for every number but 11, and leaves the output as it was; an acceptance changes only what it writes. A C call is lent an answer too.
-- Assumes nothing.
--
-- The other public calls that refuse are lent nothing to write into: `reader_judge::judge_page`, and `record_found::step_at`, by which `walker::next` and
-- `nth` go. Of them the bit is said. `pbm_reader::bitmap_of_pbm`, whose faults are no numbers of the list, owes its output in its own definition, `pbm`
-- `Read.bitmap_of_pbm`.
use Rattle.std.specs.Prelude.{◌≡◌, List, ℕ, ℤ, Result, Ok, Err}
use Rattle.refusal.specs.Reply.{BitFits}
use Rattle.refusal.specs.Demand1.{Owed}
use Rattle.register.specs.declared.Check.{Check}
use Rattle.diagram.specs.declared.Context.{Context}
use Rattle.diagram.specs.declared.Start.{Start}
use Rattle.part.specs.Call.{read_part}
use Rattle.record_found.specs.declared.Found.{Found}
use Rattle.record_found.specs.declared.Found.TheVariants.{Record, End}
use Rattle.record_found.specs.Found.{step_at}
use Rattle.reader_judge.specs.File.{judge_page}
use Rattle.reader.specs.Call.{read_page}
use Rattle.writer.specs.Call.{write_page}
use Rattle.words.specs.Calls.{words_of_bitmap, bitmap_of_words}
use Rattle.words.specs.Lines.{words_of_lines, line_of_words}
use Rattle.capture.specs.Find.{find_frames}
use Rattle.capture.specs.Extract.{records_of_frames}
use Rattle.printing.specs.declared.Times.{Times}
use Rattle.pbm.specs.Written.{pbm_of_bitmap}
use Rattle.png.specs.Written.{png_of_bitmap}
use Rattle.listing.specs.Listing.{list}
use Rattle.c_refusal.specs.Returned.{OwedToC}
use Rattle.c_part.specs.Part.{exported_part}
use Rattle.c_read.specs.ReadPage.{exported_page}
use Rattle.c_write.specs.WritePage.{exported_writing}
use Rattle.c_words.specs.RunWords.{exported_words, exported_bitmap}
use Rattle.c_capture.specs.Captures.{exported_finding, exported_records}
use Rattle.refusal.specs.declared.Refusal.{Refusal}

-- of what is found at a place of a file a refusal has no bit: a data part is not read there
abbrev pub NoBit : Result Found Refusal → Type 0
NoBit (Ok (Record r)) = Unit {0}
NoBit (Ok End) = Unit {0}
NoBit (Err f) = f.bit ≡ 0

pub record Demand1 : Type 0 where
  -- `part::read_part`
  pub read_part_lem : (octets : List ℕ) (count : ℕ) (start : Start) (o : List ℕ) → Owed o (read_part octets count start o)
  -- `reader::read_page`
  pub read_page_lem : (c : Check) (file o : List ℕ) → Owed o (read_page c file o)
  -- `writer::write_page`, whose settings are four bits, and `write_numbered`
  pub write_page_lem : (c : Check) (settings rate : ℕ) (bitmap o : List ℕ) → Owed o (write_page c settings rate bitmap o)
  -- `words_write::words_of_bitmap`, `words_of_lines`, `words_read::bitmap_of_words`, `line_of_words`
  pub words_of_bitmap_lem : (bitmap : List ℕ) (o : List ℤ) → Owed o (words_of_bitmap bitmap o)
  pub words_of_lines_lem : (bitmap : List ℕ) (from n : ℕ) (o : List ℤ) → Owed o (words_of_lines bitmap from n o)
  pub bitmap_of_words_lem : (words : List ℤ) (o : List ℕ) → Owed o (bitmap_of_words words o)
  pub line_of_words_lem : (words : List ℤ) (o : List ℕ) → Owed o (line_of_words words o)
  -- `pbm_writer::pbm_of_bitmap` and `png_writer::png_of_bitmap`
  pub pbm_of_bitmap_lem : (bitmap : List ℕ) (times : Times) (o : List ℕ) → Owed o (pbm_of_bitmap bitmap times o)
  pub png_of_bitmap_lem : (bitmap : List ℕ) (times : Times) (o : List ℕ) → Owed o (png_of_bitmap bitmap times o)
  -- `capture_find::find_frames` and `capture_records::records_of_frames`
  pub find_frames_lem : (c : Check) (capture o : List ℕ) → Owed o (find_frames c capture o)
  pub records_of_frames_lem : (capture list o : List ℕ) → Owed o (records_of_frames capture list o)
  -- `listing::list`
  pub listing : (c : Check) (file o : List ℕ) → Owed o (list c file o)
  -- `reader_judge::judge_page` and `record_found::step_at`
  pub judge_page_lem : (c : Check) (file : List ℕ) → BitFits (judge_page c file)
  pub step_at_lem : (c : Check) (file : List ℕ) (at : ℕ) → NoBit (step_at c file at).found
  -- the C calls
  pub dacom_read_part : (octets : List ℕ) (count state : ℕ) (context : Context) (o answer : List ℕ) → OwedToC o answer (exported_part octets count state context o answer)
  pub dacom_read_page : (file check o answer : List ℕ) → OwedToC o answer (exported_page file check o answer)
  pub dacom_write_page : (bitmap : List ℕ) (settings rate : ℕ) (check o answer : List ℕ) → OwedToC o answer (exported_writing bitmap settings rate check o answer)
  pub dacom_words_of_bitmap : (bitmap : List ℕ) (o : List ℤ) (answer : List ℕ) → OwedToC o answer (exported_words bitmap o answer)
  pub dacom_bitmap_of_words : (words : List ℤ) (o answer : List ℕ) → OwedToC o answer (exported_bitmap words o answer)
  pub dacom_find_frames : (capture check o answer : List ℕ) → OwedToC o answer (exported_finding capture check o answer)
  pub dacom_records_of_capture : (capture list o answer : List ℕ) → OwedToC o answer (exported_records capture list o answer)
