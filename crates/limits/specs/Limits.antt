-- Two installations, of which the older allows at most m lines a page and the newer n, where m ≤ n: what each call answers within m, by what it
-- answers within n. Proved in proofs/Limits. Assumes nothing.
use Rattle.std.specs.Prelude.{◌≡◌, cond, List, ℕ, ◌/◌, ◌<◌, ◌≤◌, leb, eqb, ℤ, length, Ok, Err}
use Rattle.refusal.specs.declared.Reason.TheVariants.{BitmapSizeNotAllowed}
use Rattle.refusal.specs.Reply.{gives, refuses, valid}
use Rattle.register.specs.declared.Check.{Check}
use Rattle.position.specs.Position.{pels_per_line}
use Rattle.bitmap.specs.Form.{lines_of}
use Rattle.bitmap.specs.Validity.{validity_within}
use Rattle.words.specs.declared.Extent.{Extent}
use Rattle.words.specs.Words.{WordLines, broken, page, lines_of_words}
use Rattle.words.specs.Calls.{words_of_bitmap_within, bitmap_of_words_within}
use Rattle.words.specs.Lines.{words_of_lines_within}
use Rattle.pbm.specs.declared.PbmFault.TheVariants.{LinesNotAllowed}
use Rattle.pbm.specs.Header.{HeaderContent, notP4, unreadable, says, pbm_header_of}
use Rattle.pbm.specs.Read.{bitmap_of_pbm_within}
use Rattle.printing.specs.declared.Times.{Times}
use Rattle.pbm.specs.Written.{pbm_of_bitmap_within}
use Rattle.png.specs.Written.{png_of_bitmap_within}
use Rattle.writer.specs.Call.{request_allowed, write_page_within}
use Rattle.reader_progress.specs.declared.Page.{Page as FilePage}
use Rattle.reader_judge.specs.File.{FileReading, refused, page as filePage, file_reading_within, judge_page_within}
use Rattle.reader.specs.Call.{read_page_within}

-- the lines that words say, 0 where they say no page
abbrev pub lines_in_words : WordLines → ℕ
lines_in_words broken = 0
lines_in_words (page lines) = length lines

-- the lines in a header of a page's width, 0 in any other
abbrev pub lines_in_header : HeaderContent → ℕ
lines_in_header notP4 = 0
lines_in_header unreadable = 0
lines_in_header (says w h rows) = cond (eqb w pels_per_line) h 0

-- the lines that a file says, 0 where it is refused; and its end record, where it is not
abbrev pub lines_in_file : FileReading → ℕ
lines_in_file (refused number k b) = 0
lines_in_file (filePage t cs) = t.lines

abbrev pub end_in_file : FileReading → ℕ
end_in_file (refused number k b) = 0
end_in_file (filePage t cs) = t.octets / 76

-- ---- any input: with at most m lines as within n, and with more refused

pub record WithinBoth (m n : ℕ) : Type 0 where
  -- 15, the last judged of a file but for room, falls at the end record
  pub judge_page_lem : (c : Check) (file : List ℕ) →
      judge_page_within m c file ≡ cond (leb (lines_in_file (file_reading_within n c file)) m) (judge_page_within n c file) (refuses 15 (end_in_file (file_reading_within n c file)))
  pub read_page_lem : (c : Check) (file o : List ℕ) →
      read_page_within m c file o ≡ cond (leb (lines_in_file (file_reading_within n c file)) m) (read_page_within n c file o) (refuses 15 (end_in_file (file_reading_within n c file)), o)
  pub bitmap : (bm : List ℕ) → validity_within m bm ≡ cond (leb (lines_of bm) m) (validity_within n bm) (Err BitmapSizeNotAllowed)
  -- 20 comes before 17
  pub write_page_lem : (c : Check) (settings rate : ℕ) (bm o : List ℕ) →
      write_page_within m c settings rate bm o ≡ cond (leb (lines_of bm) m) (write_page_within n c settings rate bm o) (refuses (cond (request_allowed c rate) 17 20) 0, o)
  pub words_of_bitmap_lem : (bm : List ℕ) (o : List ℤ) → words_of_bitmap_within m bm o ≡ cond (leb (lines_of bm) m) (words_of_bitmap_within n bm o) (refuses 17 0, o)
  pub words_of_lines_lem : (bm : List ℕ) (from k : ℕ) (o : List ℤ) → words_of_lines_within m bm from k o ≡ cond (leb (lines_of bm) m) (words_of_lines_within n bm from k o) (refuses 17 0, o)
  pub bitmap_of_words_lem : (ws : List ℤ) (o : List ℕ) → bitmap_of_words_within m ws o ≡ cond (leb (lines_in_words (lines_of_words ws)) m) (bitmap_of_words_within n ws o) (refuses 17 0, o)
  pub pbm_of_bitmap_lem : (bm : List ℕ) (times : Times) (o : List ℕ) → pbm_of_bitmap_within m bm times o ≡ cond (leb (lines_of bm) m) (pbm_of_bitmap_within n bm times o) (refuses 17 0, o)
  pub png_of_bitmap_lem : (bm : List ℕ) (times : Times) (o : List ℕ) → png_of_bitmap_within m bm times o ≡ cond (leb (lines_of bm) m) (png_of_bitmap_within n bm times o) (refuses 17 0, o)
  pub bitmap_of_pbm_lem : (file o : List ℕ) → bitmap_of_pbm_within m file o ≡ cond (leb (lines_in_header (pbm_header_of file)) m) (bitmap_of_pbm_within n file o) (Err LinesNotAllowed, o)

abbrev pub Limits : Type 0
Limits = (m n : ℕ) → m ≤ n → WithinBoth m n

-- ---- so what is accepted within m is accepted within n, with the same values and the same output

pub record Kept (m n : ℕ) : Type 0 where
  pub judge_page_lem : (c : Check) (file : List ℕ) (t : FilePage) → judge_page_within m c file ≡ gives t → judge_page_within n c file ≡ gives t
  pub read_page_lem : (c : Check) (file o : List ℕ) (t : FilePage) (p : List ℕ) → read_page_within m c file o ≡ (gives t, p) → read_page_within n c file o ≡ (gives t, p)
  pub bitmap : (bm : List ℕ) → validity_within m bm ≡ valid → validity_within n bm ≡ valid
  pub write_page_lem : (c : Check) (settings rate : ℕ) (bm o : List ℕ) (octets : ℕ) (p : List ℕ) → write_page_within m c settings rate bm o ≡ (gives octets, p) → write_page_within n c settings rate bm o ≡ (gives octets, p)
  pub words_of_bitmap_lem : (bm : List ℕ) (o : List ℤ) (words : ℕ) (p : List ℤ) → words_of_bitmap_within m bm o ≡ (gives words, p) → words_of_bitmap_within n bm o ≡ (gives words, p)
  pub words_of_lines_lem : (bm : List ℕ) (from k : ℕ) (o : List ℤ) (words : ℕ) (p : List ℤ) → words_of_lines_within m bm from k o ≡ (gives words, p) → words_of_lines_within n bm from k o ≡ (gives words, p)
  pub bitmap_of_words_lem : (ws : List ℤ) (o : List ℕ) (e : Extent) (p : List ℕ) → bitmap_of_words_within m ws o ≡ (gives e, p) → bitmap_of_words_within n ws o ≡ (gives e, p)
  pub pbm_of_bitmap_lem : (bm : List ℕ) (times : Times) (o : List ℕ) (octets : ℕ) (p : List ℕ) → pbm_of_bitmap_within m bm times o ≡ (gives octets, p) → pbm_of_bitmap_within n bm times o ≡ (gives octets, p)
  pub png_of_bitmap_lem : (bm : List ℕ) (times : Times) (o : List ℕ) (octets : ℕ) (p : List ℕ) → png_of_bitmap_within m bm times o ≡ (gives octets, p) → png_of_bitmap_within n bm times o ≡ (gives octets, p)
  pub bitmap_of_pbm_lem : (file o : List ℕ) (octets : ℕ) (p : List ℕ) → bitmap_of_pbm_within m file o ≡ (Ok octets, p) → bitmap_of_pbm_within n file o ≡ (Ok octets, p)

abbrev pub AllKept : Type 0
AllKept = (m n : ℕ) → m ≤ n → Kept m n

-- ---- and what is accepted within n and has more than m lines is refused within m, the output as it was

pub record NewRefused (m n : ℕ) : Type 0 where
  pub judge_page_lem : (c : Check) (file : List ℕ) (t : FilePage) → judge_page_within n c file ≡ gives t → m < t.lines → judge_page_within m c file ≡ refuses 15 (t.octets / 76)
  pub read_page_lem : (c : Check) (file o : List ℕ) (t : FilePage) (p : List ℕ) → read_page_within n c file o ≡ (gives t, p) → m < t.lines → read_page_within m c file o ≡ (refuses 15 (t.octets / 76), o)
  pub bitmap : (bm : List ℕ) → validity_within n bm ≡ valid → m < lines_of bm → validity_within m bm ≡ Err BitmapSizeNotAllowed
  pub write_page_lem : (c : Check) (settings rate : ℕ) (bm o : List ℕ) (octets : ℕ) (p : List ℕ) → write_page_within n c settings rate bm o ≡ (gives octets, p) → m < lines_of bm →
      write_page_within m c settings rate bm o ≡ (refuses 17 0, o)
  pub words_of_bitmap_lem : (bm : List ℕ) (o : List ℤ) (words : ℕ) (p : List ℤ) → words_of_bitmap_within n bm o ≡ (gives words, p) → m < lines_of bm → words_of_bitmap_within m bm o ≡ (refuses 17 0, o)
  pub words_of_lines_lem : (bm : List ℕ) (from k : ℕ) (o : List ℤ) (words : ℕ) (p : List ℤ) → words_of_lines_within n bm from k o ≡ (gives words, p) → m < lines_of bm → words_of_lines_within m bm from k o ≡ (refuses 17 0, o)
  pub bitmap_of_words_lem : (ws : List ℤ) (o : List ℕ) (e : Extent) (p : List ℕ) → bitmap_of_words_within n ws o ≡ (gives e, p) → m < lines_in_words (lines_of_words ws) → bitmap_of_words_within m ws o ≡ (refuses 17 0, o)
  pub pbm_of_bitmap_lem : (bm : List ℕ) (times : Times) (o : List ℕ) (octets : ℕ) (p : List ℕ) → pbm_of_bitmap_within n bm times o ≡ (gives octets, p) → m < lines_of bm → pbm_of_bitmap_within m bm times o ≡ (refuses 17 0, o)
  pub png_of_bitmap_lem : (bm : List ℕ) (times : Times) (o : List ℕ) (octets : ℕ) (p : List ℕ) → png_of_bitmap_within n bm times o ≡ (gives octets, p) → m < lines_of bm → png_of_bitmap_within m bm times o ≡ (refuses 17 0, o)
  pub bitmap_of_pbm_lem : (file o : List ℕ) (octets : ℕ) (p : List ℕ) → bitmap_of_pbm_within n file o ≡ (Ok octets, p) → m < lines_in_header (pbm_header_of file) → bitmap_of_pbm_within m file o ≡ (Err LinesNotAllowed, o)

abbrev pub AllNewRefused : Type 0
AllNewRefused = (m n : ℕ) → m ≤ n → NewRefused m n
