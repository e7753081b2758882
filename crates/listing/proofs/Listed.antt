-- A listing, record by record: what is left to list from a record on, and that there is room for all of it. Assumes nothing.
use mathlib.Core.Bool.{Bool, true, false, cond}
use mathlib.Core.Path.{◌≡◌, refl, sym, ap₂, ◌∙◌}
use mathlib.Core.List.{List, ◌++◌}
use Prim.Native.Nat.{ℕ, zero, suc, ◌+◌, ◌-◌, ◌*◌, ◌≤◌, ◌<◌}
use native.Mathlib.Nat.{sub-zero}
use native.Mathlib.Numerals.{add-one}
use native.Mathlib.Omega.{arith}
use lib.Dec.{ltb}
use lib.ListN.{length, drop, length-append}
use borrow.Author.Tests.{lt-ltb, le-ltb, ltb-false}
use Rattle.basics.specs.Cursor.{HasRoom}
use Rattle.basics.specs.declared.Cursor.{Cursor}
use Rattle.basics.proofs.Writing.{Left, left_all}
use Rattle.text.specs.Text.{codes}
use Rattle.refusal.specs.declared.Reason.TheVariants.{RequestNotAllowed}
use Rattle.refusal.specs.declared.Fault.{Fault}
use Rattle.refusal.specs.declared.Refusal.{Refusal}
use Rattle.refusal.specs.Fault.{fault_of, at_record}
use Rattle.refusal.specs.Number.{number_of}
use Rattle.refusal.specs.Reply.{Reply, gives, refuses}
use Rattle.refusal.proofs.Replies.{with_room, no_room}
use Rattle.register.specs.declared.Check.{Check}
use Rattle.register.specs.Setting.{allowed_check}
use Rattle.bitmap.proofs.Pels.{most_small}
use Rattle.records.proofs.Order.{due_missing}
use Rattle.bitmap.specs.Validity.{most_lines}
use Rattle.reader_progress.specs.declared.Page.{Page}
use Rattle.reader_progress.specs.declared.RecordEffect.{RecordEffect}
use Rattle.reader_progress.specs.declared.RecordEffect.TheVariants.{On, Page as Ends}
use Rattle.reader_progress.specs.declared.FileProgress.{FileProgress}
use Rattle.reader_progress.specs.Progress.{first_progress}
use Rattle.reader_record.specs.Record.{next}
use Rattle.reader_record.proofs.Judges.{not_due, went, stopped_bit, finished}
use Rattle.reader_judge.proofs.Files.{went_room}
use Rattle.frame.specs.declared.Record.{Record}
use Rattle.record_lines.specs.Lines.{record_line, end_lines, refused_line, refusal_line}
use Rattle.refusal.proofs.Numbers.{number_small}
use Rattle.listing.specs.Listing.{lines, list_from, listing_by, most_file, most_text, listing, list}
use Rattle.listing.proofs.Lengths.{record_short, end_short, refused_short}
use Rattle.std.specs.Prelude.{Result, Ok, Err}

-- ---- one record after the other

-- A record, then the rest. Where the bound on records is used up there is no record left.
list_step : (c : Check) (file : List ℕ) (k : ℕ) (p : FileProgress) →
    list_from c file (length file - k) k p ≡ lines (next c file k p) k (λ q. list_from c file (length file - suc k) (suc k) q)
unfolding list_from
list_step c file k p = go (length file - k) refl
  where
    go : (n : ℕ) → length file - k ≡ n → list_from c file n k p ≡ lines (next c file k p) k (λ q. list_from c file (length file - suc k) (suc k) q)
    go zero e = rw (sym (not_due c file k p (sym (due_missing file (76 * k) (omega arith))))) refl
    go (suc n) e = let z : length file - suc k ≡ n = omega arith in rw z refl

module _ (c : Check) (file : List ℕ) (k : ℕ) (p : FileProgress) where
  pub listed_refused : {f : Fault} {r : Refusal} → next c file k p ≡ Err f → r ≡ at_record f k → list_from c file (length file - k) k p ≡ refusal_line r
  listed_refused e g = list_step c file k p ∙ rw (e, g) refl

  pub listed_page : {t : Page} → next c file k p ≡ Ok (Ends t) → list_from c file (length file - k) k p ≡ end_lines k t.lines
  listed_page e = list_step c file k p ∙ rw e refl

  pub listed_on : {r : Record} {q : FileProgress} → next c file k p ≡ Ok (On r q) → list_from c file (length file - k) k p ≡ record_line k r ++ list_from c file (length file - (k + 1)) (k + 1) q
  listed_on e = list_step c file k p ∙ rw (e, add-one k) refl

-- ---- the room

-- a line is no longer than its record, and what is behind the last record no longer than a record
short_from : (c : Check) (file : List ℕ) (n k : ℕ) (p : FileProgress) → length file ≤ 65536 → 76 * k ≤ length file → length (list_from c file n k p) + 76 * k ≤ length file + 76
unfolding list_from
short_from c file zero k p l h = omega (arith, refused_short k (omega arith) 1 0 (omega arith) (omega arith))
short_from c file (suc n) k p l h = go (next c file k p) refl (λ q g. short_from c file n (suc k) q l g)
  where
    go : (x : Result RecordEffect Fault) → next c file k p ≡ x → ((q : FileProgress) → 76 * suc k ≤ length file → length (list_from c file n (suc k) q) + 76 * suc k ≤ length file + 76) →
        length (lines x k (λ q. list_from c file n (suc k) q)) + 76 * k ≤ length file + 76
    go (Err f) e rest = omega (arith, refused_short k (omega arith) (number_of f.reason) f.bit (omega (arith, number_small f.reason)) (stopped_bit most_lines c file k p f e).1)
    go (Ok (Ends t)) e rest = let f = finished most_lines c file k p t e in omega (arith, end_short k (omega arith) t.lines (rw f.is (omega (arith, f.few, most_small))))
    go (Ok (On r q)) e rest =
        let w = went c file k p r q e in
        let m = went_room w in
        rw (length-append (record_line k r) (list_from c file n (suc k) q)) (omega (arith, record_short k (omega arith) w, rest q (omega arith)))

pub text_short : (c : Check) (file : List ℕ) → length file ≤ most_file → length (listing_by c file) ≤ most_text
unfolding listing_by most_file most_text
text_short c file l = omega (arith, short_from c file (length file) 0 first_progress l (omega arith))

-- ---- what is written

-- before record k: the lines of the records before it are written, and those from it on are left
abbrev pub Listed : Check → List ℕ → Cursor ℕ → ℕ → FileProgress → Cursor ℕ → Type 0
Listed c file o k p q = Left (listing_by c file) o (list_from c file (length file - k) k p) q

pub listed_first : (c : Check) (file : List ℕ) (o : Cursor ℕ) → length file ≤ most_file → HasRoom most_text o → Listed c file o 0 first_progress o
unfolding listing_by
listed_first c file o l h = left_all o (omega (arith, text_short c file l)) (rw (sub-zero (length file)) refl)

-- ---- the whole text

module _ (c : Check) (file : List ℕ) where
  pub too_long : most_file < length file → codes "too long\n" ≡ listing c file
  unfolding listing
  too_long l = rw (lt-ltb most_file (length file) l) refl

  module _ (l : length file ≤ most_file) where
    pub not_allowed : {f : Fault} {r : Refusal} → allowed_check c ≡ false → r ≡ at_record f 0 → f ≡ fault_of RequestNotAllowed → refusal_line r ≡ listing c file
    unfolding listing
    not_allowed e g h = rw (g, h, le-ltb most_file (length file) l, e) refl

    pub whole : allowed_check c ≡ true → listing_by c file ≡ listing c file
    unfolding listing
    whole e = rw (le-ltb most_file (length file) l, e) refl

  -- there is room for any
  pub any_short : length (listing c file) ≤ most_text
  unfolding listing most_text codes
  any_short = go (ltb most_file (length file)) (allowed_check c) refl
    where
      go : (a b : Bool) → ltb most_file (length file) ≡ a → length (cond a (codes "too long\n") (cond b (listing_by c file) (refused_line 20 0 0))) ≤ 65612
      go true b e = omega arith
      go false true e = text_short c file (ltb-false most_file (length file) e)
      go false false e = omega (arith, refused_short 0 (omega arith) 20 0 (omega arith) (omega arith))

-- ---- the call

pub text_written : (c : Check) (file o : List ℕ) {n : ℕ} {text q : List ℕ} → n ≡ length (listing c file) → text ≡ listing c file → n ≤ length o → q ≡ text ++ drop n o → (gives n, q) ≡ list c file o
unfolding list
text_written c file o e f h g =
    ap₂ (λ (m : ℕ) (p : List ℕ). (gives m, p)) e (g ∙ rw (f, e) refl)
    ∙ with_room _ 0 (listing c file) o (omega arith)

pub too_short : (c : Check) (file o : List ℕ) {n : ℕ} → n ≡ length (listing c file) → length o < n → {x : Reply ℕ} → x ≡ refuses 16 0 → (x, o) ≡ list c file o
unfolding list
too_short c file o e h f = rw f (no_room _ 0 (listing c file) o (omega arith))
