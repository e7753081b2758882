-- Demand 1: each call's definition ends in a refusal that leaves the output, or in a delivery. Assumes nothing.
use mathlib.Core.Path.{◌≡◌, refl}
use mathlib.Core.Bool.{Bool, true, false, cond}
use mathlib.Core.List.{List, [], ◌∷◌}
use Prim.Native.Nat.{ℕ, zero, suc, ◌/◌, ◌<◌, ◌^◌}
use native.Mathlib.Omega.{arith}
use lib.Dec.{ltb}
use lib.IntN.{ℤ}
use lib.ListN.{length}
use Rattle.refusal.specs.declared.Reason.TheVariants.{RecordIncomplete, NoReading, BitmapSizeNotAllowed, RequestNotAllowed, RunWordsNotAllowed, ListOutside, HeaderDisagrees}
use Rattle.refusal.specs.Number.{number_of}
use Rattle.refusal.specs.Reply.{BitFits, Outcome, if_valid}
use Rattle.refusal.specs.Demand1.{Listed, Owed}
use Rattle.refusal.proofs.Demand1.{owed_refusal, owed_delivered, owed_valid, owed_cond}
use Rattle.register.specs.declared.Check.{Check}
use Rattle.register.specs.Setting.{allowed_check}
use Rattle.state.specs.declared.State.{State}
use Rattle.diagram.specs.declared.Context.{Context}
use Rattle.diagram.specs.declared.Start.{Start}
use Rattle.diagram.specs.Decoder.{Answer, refused, read, decode}
use Rattle.octets.specs.Bits.{bits_from}
use Rattle.octets.proofs.Fields.{length_bits}
use Rattle.bitmap.specs.Form.{columns_of}
use Rattle.bitmap.specs.Validity.{lines_allowed, bitmap_validity}
use Rattle.part.specs.Call.{part_validity, answered, read_part}
use Rattle.part.proofs.Called.{fine, stops_within}
use Rattle.records.specs.declared.Kind.TheVariants.{Frame, End as EndDue}
use Rattle.records.specs.Records.{due_at, framed_at}
use Rattle.record_found.specs.Found.{refused_at, found_in, found_due, found_at, step_at}
use Rattle.reader_progress.specs.declared.RecordEffect.{RecordEffect}
use Rattle.reader_progress.specs.declared.RecordEffect.TheVariants.{On, Page as Ends}
use Rattle.reader_progress.specs.declared.FileProgress.{FileProgress}
use Rattle.reader_record.specs.Record.{next, columns_at}
use Rattle.reader_judge.specs.File.{FileReading, refused as notRead, page, laying, after_record, reading_from_within, file_reading_from, reading_by_within, file_reading_within, file_reading, judgement_of, judge_page_within}
use Rattle.reader_judge.specs.Laws.{place_of}
use Rattle.reader_judge.proofs.Answers.{judged_place, judged_bit}
use Rattle.reader.specs.Call.{laid_out, read_page_within, read_page}
use Rattle.writer.specs.Call.{most_columns, judge_page as judgeWriting, if_fit, write_page_within, write_page}
use Rattle.words.specs.Words.{WordLines, broken, page as pageOfLines, lines_of_words}
use Rattle.words.specs.Calls.{words_of_bitmap_within, words_of_bitmap, drawn_if, bitmap_of_words_within, bitmap_of_words}
use Rattle.words.specs.Lines.{words_of_lines_within, words_of_lines, FrontLine, a_line, page_end, no_line, unended, front_line, drawn_front, line_of_words}
use Rattle.capture.specs.Find.{tells_frames, find_frames}
use Rattle.capture.specs.Extract.{all_within, records_of_frames}
use Rattle.printing.specs.Saved.{saved_within, saved}
use Rattle.pbm.specs.Written.{pbm_of}
use Rattle.png.specs.Written.{png_of}
use Rattle.listing.specs.Listing.{list}
use Rattle.c_refusal.specs.Returned.{returned, OwedToC}
use Rattle.c_refusal.proofs.Owed.{owed_returned, owed_number}
use Rattle.c_check.specs.Setting.{check_setting_of, is_setting}
use Rattle.c_part.specs.Part.{unstated, numbers_of, start_of, exported_part}
use Rattle.c_read.specs.ReadPage.{page_numbers, exported_page}
use Rattle.c_write.specs.WritePage.{exported_writing}
use Rattle.c_words.specs.RunWords.{extent_numbers, exported_words, exported_bitmap}
use Rattle.c_capture.specs.Captures.{exported_finding, exported_records}
use Rattle.demands.specs.Demand1.{NoBit, Demand1}
use Rattle.std.specs.Prelude.{Result, Ok, Err}
use Rattle.frame.specs.declared.Record.{Record}
use Rattle.records.specs.declared.Kind.{Kind}
use Rattle.refusal.specs.declared.Reason.{Reason}
use Rattle.settings.specs.declared.Settings.{Settings}
use Rattle.refusal.specs.declared.Fault.{Fault}

-- ---- the calls

part_owes : (s : List ℕ) (count : ℕ) (a : Start) (o : List ℕ) → Owed o (read_part s count a o)
unfolding read_part
part_owes s count a o = go (part_validity s count a) refl
  where
    read_owes : (x : Answer) → ((k : ℕ) → x ≡ refused k → k < 512) → Owed o (answered count x o)
    read_owes (refused k) h = ((NoReading, refl), ((λ n. absurd (n refl)), h k refl), omega arith, refl)
    read_owes (read ss e m) h = owed_delivered _ 0 _ o (omega arith)

    go : (j : Result Unit Reason) → part_validity s count a ≡ j → Owed o (if_valid j (answered count (decode a (bits_from s 0 count)) o) o)
    go (Err reason) e = owed_refusal reason 0 o (omega arith)
    go (Ok _) e =
        let f = fine s count a e in
        read_owes (decode a (bits_from s 0 count)) (λ k d. stops_within a (bits_from s 0 count) k f.1 (rw (length_bits s 0 count) f.0) d)

-- a file is refused by numbers of the list
abbrev InList : FileReading → Type 0
InList (notRead n k b) = Listed n
InList (page t cs) = Unit {0}

from_record : (c : Check) (file : List ℕ) (n k : ℕ) (p : FileProgress) → InList (file_reading_from c file n k p)
unfolding reading_from_within
from_record c file zero k p = (RecordIncomplete, refl)
from_record c file (suc n) k p = go (next c file k p) (λ q. from_record c file n (suc k) q)
  where
    laid : (cs : List State) (s : FileReading) → InList s → InList (laying cs s)
    laid cs (notRead m j b) h = h
    laid cs (page t ds) h = tt

    go : (x : Result RecordEffect Fault) → ((q : FileProgress) → InList (file_reading_from c file n (suc k) q)) → InList (after_record x k (columns_at file k p.image) (λ q. file_reading_from c file n (suc k) q))
    go (Err f) rest = (f.reason, refl)
    go (Ok (Ends t)) rest = tt
    go (Ok (On r q)) rest = laid (columns_at file k p.image) (file_reading_from c file n (suc k) q) (rest q)

in_list : (c : Check) (file : List ℕ) → InList (file_reading c file)
unfolding file_reading_within reading_by_within
in_list c file = go (allowed_check c) _ (from_record c _ _ 0 _)
  where
    go : (b : Bool) (s : FileReading) → InList s → InList (cond b s (notRead 20 0 0))
    go true s h = h
    go false s h = (RequestNotAllowed, refl)

page_owes : (c : Check) (file o : List ℕ) → Owed o (read_page c file o)
unfolding read_page_within judge_page_within
page_owes c file o = go (file_reading c file) (in_list c file) (judged_place c file) (judged_bit c file)
  where
    go : (s : FileReading) → InList s → place_of (judgement_of s) < 2 ^ 40 → BitFits (judgement_of s) → Owed o (laid_out s o)
    go (notRead n k b) h p g = (h, g, p, refl)
    go (page t cs) h p g = owed_delivered t (t.octets / 76) _ o p

writing_owes : (c : Check) (settings rate : ℕ) (bm o : List ℕ) → Owed o (write_page c settings rate bm o)
unfolding write_page_within
writing_owes c settings rate bm o = go (judgeWriting c settings rate bm)
  where
    go : (j : Result Settings Reason) → Owed o (if_fit j c (most_columns rate) (columns_of bm) o)
    go (Err reason) = owed_refusal reason 0 o (omega arith)
    go (Ok g) = owed_delivered _ 0 _ o (omega arith)

words_owe : (bm : List ℕ) (o : List ℤ) → Owed o (words_of_bitmap bm o)
unfolding words_of_bitmap_within
words_owe bm o = owed_valid (bitmap_validity bm) _ o (owed_delivered _ 0 _ o (omega arith))

lines_owe : (bm : List ℕ) (from n : ℕ) (o : List ℤ) → Owed o (words_of_lines bm from n o)
unfolding words_of_lines_within
lines_owe bm from n o = owed_valid (bitmap_validity bm) _ o (owed_delivered _ 0 _ o (omega arith))

line_owes : (ws : List ℤ) (o : List ℕ) → Owed o (line_of_words ws o)
unfolding line_of_words
line_owes ws o = go (front_line ws)
  where
    go : (x : FrontLine) → Owed o (drawn_front x o)
    go (a_line line) = owed_delivered _ 0 _ o (omega arith)
    go page_end = ([], omega arith, refl)
    go unended = ([], omega arith, refl)
    go no_line = owed_refusal RunWordsNotAllowed 0 o (omega arith)

bitmap_owes : (ws : List ℤ) (o : List ℕ) → Owed o (bitmap_of_words ws o)
unfolding bitmap_of_words_within
bitmap_owes ws o = go (lines_of_words ws)
  where
    go : (s : WordLines) → Owed o (drawn_if s o)
    go broken = owed_refusal RunWordsNotAllowed 0 o (omega arith)
    go (pageOfLines lines) = owed_cond (lines_allowed (length lines)) _ _ o (owed_delivered _ 0 _ o (omega arith)) (owed_refusal BitmapSizeNotAllowed 0 o (omega arith))

saved_owes : (bm file o : List ℕ) → Owed o (saved bm file o)
unfolding saved_within
saved_owes bm file o = owed_valid (bitmap_validity bm) _ o (owed_delivered _ 0 _ o (omega arith))

finding_owes : (c : Check) (s o : List ℕ) → Owed o (find_frames c s o)
unfolding find_frames
finding_owes c s o = owed_cond (tells_frames c) _ _ o (owed_delivered _ 0 _ o (omega arith)) (owed_refusal RequestNotAllowed 0 o (omega arith))

records_owe : (s list o : List ℕ) → Owed o (records_of_frames s list o)
unfolding records_of_frames
records_owe s list o = owed_cond (all_within s list) _ _ o (owed_delivered _ 0 _ o (omega arith)) (owed_refusal ListOutside 0 o (omega arith))

listing_owes : (c : Check) (file o : List ℕ) → Owed o (list c file o)
unfolding list
listing_owes c file o = owed_delivered _ 0 _ o (omega arith)

-- ---- what is found

step_no_bit : (c : Check) (file : List ℕ) (at : ℕ) → NoBit (step_at c file at).found
unfolding step_at found_at
step_no_bit c file at = go (allowed_check c)
  where
    taken : (x : Result Record Reason) → NoBit (found_in x (at / 76))
    taken (Ok r) = tt
    taken (Err reason) = refl

    due : (d : Result Kind Reason) → NoBit (found_due c file at d)
    due (Err reason) = refl
    due (Ok (Frame kind)) = taken (framed_at c file at kind).taken
    due (Ok EndDue) = tt

    go : (b : Bool) → NoBit (cond b (found_due c file at (due_at file at)) (refused_at RequestNotAllowed 0))
    go true = due (due_at file at)
    go false = refl

-- ---- the C calls

c_part_owes : (s : List ℕ) (count state : ℕ) (cx : Context) (o answer : List ℕ) → OwedToC o answer (exported_part s count state cx o answer)
unfolding exported_part
c_part_owes s count state cx o answer = go (ltb 3 state)
  where
    no_state : (j : Result Unit Reason) → OwedToC o answer (unstated j, o, answer)
    no_state (Err reason) = owed_number reason o answer
    no_state (Ok _) = owed_number HeaderDisagrees o answer

    go : (b : Bool) → OwedToC o answer (cond b (unstated (part_validity s count (start_of state cx)), o, answer) (returned numbers_of (read_part s count (start_of state cx) o) answer))
    go true = no_state (part_validity s count (start_of state cx))
    go false = owed_returned numbers_of (read_part s count (start_of state cx) o) o answer (part_owes s count (start_of state cx) o)

-- of a call that takes a check setting
checked_owes : {B : Type 0} (numbers : B → List ℕ) (b : Bool) (x : Outcome B ℕ) (o answer : List ℕ) → Owed o x → OwedToC o answer (cond b (returned numbers x answer) (number_of RequestNotAllowed, o, answer))
checked_owes numbers true x o answer h = owed_returned numbers x o answer h
checked_owes numbers false x o answer h = owed_number RequestNotAllowed o answer

c_page_owes : (file c o answer : List ℕ) → OwedToC o answer (exported_page file c o answer)
unfolding exported_page
c_page_owes file c o answer = checked_owes page_numbers (is_setting c) (read_page (check_setting_of c) file o) o answer (page_owes (check_setting_of c) file o)

c_writing_owes : (bm : List ℕ) (settings rate : ℕ) (c o answer : List ℕ) → OwedToC o answer (exported_writing bm settings rate c o answer)
unfolding exported_writing
c_writing_owes bm settings rate c o answer =
    checked_owes (λ n. n ∷ []) (is_setting c) (write_page (check_setting_of c) settings rate bm o) o answer (writing_owes (check_setting_of c) settings rate bm o)

c_finding_owes : (s c o answer : List ℕ) → OwedToC o answer (exported_finding s c o answer)
unfolding exported_finding
c_finding_owes s c o answer = checked_owes (λ n. n ∷ []) (is_setting c) (find_frames (check_setting_of c) s o) o answer (finding_owes (check_setting_of c) s o)

pub demand_1 : Demand1
unfolding exported_words exported_bitmap exported_records
demand_1 = record {
  read_part_lem = part_owes;
  read_page_lem = page_owes;
  write_page_lem = writing_owes;
  words_of_bitmap_lem = words_owe;
  words_of_lines_lem = lines_owe;
  bitmap_of_words_lem = bitmap_owes;
  line_of_words_lem = line_owes;
  pbm_of_bitmap_lem = λ bm times o. saved_owes bm (pbm_of times bm) o;
  png_of_bitmap_lem = λ bm times o. saved_owes bm (png_of times bm) o;
  find_frames_lem = finding_owes;
  records_of_frames_lem = records_owe;
  listing = listing_owes;
  judge_page_lem = judged_bit;
  step_at_lem = step_no_bit;
  dacom_read_part = c_part_owes;
  dacom_read_page = c_page_owes;
  dacom_write_page = c_writing_owes;
  dacom_words_of_bitmap = λ bm o answer. owed_returned (λ n. n ∷ []) (words_of_bitmap bm o) o answer (words_owe bm o);
  dacom_bitmap_of_words = λ ws o answer. owed_returned extent_numbers (bitmap_of_words ws o) o answer (bitmap_owes ws o);
  dacom_find_frames = c_finding_owes;
  dacom_records_of_capture = λ s list o answer. owed_returned (λ n. n ∷ []) (records_of_frames s list o) o answer (records_owe s list o);
}
