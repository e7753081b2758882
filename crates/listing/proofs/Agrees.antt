-- A listing says what the reader says: by the same steps from record to record. Assumes nothing.
use mathlib.Core.Path.{◌≡◌, refl, sym, ap, ◌∙◌}
use mathlib.Core.Bool.{Bool, true, false, cond}
use mathlib.Core.List.{List, [], ◌++◌, append_assoc}
use Prim.Native.Nat.{ℕ, zero, suc, ◌/◌, ◌≤◌}
use native.Mathlib.Omega.{arith}
use lib.ListN.{length}
use lib.Seq.{take_all}
use borrow.Author.Tests.{le-ltb}
use Rattle.refusal.specs.Reply.{Reply}
use Rattle.register.specs.declared.Check.{Check}
use Rattle.register.specs.Setting.{allowed_check}
use Rattle.bitmap.specs.Validity.{most_lines}
use Rattle.reader_progress.specs.declared.Page.{Page}
use Rattle.reader_progress.specs.declared.RecordEffect.{RecordEffect}
use Rattle.reader_progress.specs.declared.RecordEffect.TheVariants.{On, Page as Ends}
use Rattle.reader_progress.specs.declared.FileProgress.{FileProgress}
use Rattle.reader_progress.specs.Progress.{first_progress}
use Rattle.reader_record.specs.Record.{next, columns_at}
use Rattle.reader_record.proofs.Judges.{finished}
use Rattle.reader_judge.specs.File.{FileReading, refused, after_record, reading_from_within, file_reading_from, reading_by_within, most_octets, file_reading_within, judgement_of, judge_page_within}
use Rattle.reader_judge.proofs.Files.{laying_judged}
use Rattle.record_lines.specs.Lines.{record_line, refused_line}
use Rattle.listing.specs.Listing.{lines, list_from, listing_by, most_file, listing}
use Rattle.listing.specs.Laws.{record_and, records_from, records_of, record_lines, ending, ListingAgrees}
use Rattle.std.specs.Prelude.{Result, Ok, Err}
use Rattle.refusal.specs.declared.Fault.{Fault}

from_record : (c : Check) (file : List ℕ) (n k : ℕ) (p : FileProgress) →
    list_from c file n k p ≡ record_lines k (records_from c file n k p) ++ ending (judgement_of (file_reading_from c file n k p))
unfolding list_from reading_from_within records_from record_lines
from_record c file zero k p = refl
from_record c file (suc n) k p = go (next c file k p) refl (λ q. from_record c file n (suc k) q)
  where
    go : (x : Result RecordEffect Fault) → next c file k p ≡ x →
        ((q : FileProgress) → list_from c file n (suc k) q ≡ record_lines (suc k) (records_from c file n (suc k) q) ++ ending (judgement_of (file_reading_from c file n (suc k) q))) →
        lines x k (λ q. list_from c file n (suc k) q) ≡
        record_lines k (record_and x (λ q. records_from c file n (suc k) q)) ++ ending (judgement_of (after_record x k (columns_at file k p.image) (λ q. file_reading_from c file n (suc k) q)))
    go (Err f) e rest = refl
    go (Ok (Ends t)) e rest = let z : t.octets / 76 ≡ k = rw (finished most_lines c file k p t e).is (omega arith) in rw z refl
    go (Ok (On r q)) e rest =
        let l : List ℕ = record_line k r in
        let ls : List ℕ = record_lines (suc k) (records_from c file n (suc k) q) in
        let s : FileReading = file_reading_from c file n (suc k) q in
        ap (λ (x : List ℕ). l ++ x) (rest q) ∙ sym (append_assoc l ls (ending (judgement_of s))) ∙ ap (λ (x : Reply Page). (l ++ ls) ++ ending x) (sym (laying_judged (columns_at file k p.image) s))

few : (file : List ℕ) → length file ≤ most_file → length file ≤ most_octets
unfolding most_file most_octets
few file h = omega arith

pub listing_agrees : ListingAgrees
unfolding listing listing_by records_of record_lines judge_page_within file_reading_within reading_by_within
listing_agrees c file h = rw (le-ltb most_file (length file) h, take_all most_octets file (few file h)) (go (allowed_check c))
  where
    go : (b : Bool) →
        cond b (list_from c file (length file) 0 first_progress) (refused_line 20 0 0) ≡
        record_lines 0 (cond b (records_from c file (length file) 0 first_progress) []) ++ ending (judgement_of (cond b (file_reading_from c file (length file) 0 first_progress) (refused 20 0 0)))
    go true = from_record c file (length file) 0 first_progress
    go false = refl
