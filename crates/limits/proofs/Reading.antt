-- A file read within two limits, of which m is no larger than n: the two readings part at the end record alone, and only by its last test, 15. Assumes nothing.
use mathlib.Core.Path.{◌≡◌, refl, ap, ◌∙◌}
use mathlib.Core.Bool.{Bool, true, false, cond, ◌||◌}
use mathlib.Core.List.{List, []}
use Prim.Native.Nat.{ℕ, zero, suc, ◌*◌, ◌/◌, ◌<◌, ◌≤◌}
use native.Mathlib.Decide.{dec_le}
use native.Mathlib.Omega.{arith}
use lib.Dec.{leb, ltb, eqb}
use lib.ListN.{length, take}
use borrow.Author.Tests.{le-leb, lt-leb, lt-ltb, le-ltb}
use Rattle.refusal.specs.Fault.{fault_of}
use Rattle.refusal.specs.declared.Reason.TheVariants.{RecordOutOfPlace, PageEndsOpen, ColumnsNotWholePairs, TooManyLines}
use Rattle.refusal.specs.Reply.{gives, refuses, Outcome}
use Rattle.refusal.proofs.Replies.{accepted, not_accepted}
use Rattle.bitmap.specs.Form.{bitmap_of}
use Rattle.register.specs.declared.Check.{Check}
use Rattle.register.specs.Setting.{allowed_check}
use Rattle.state.specs.declared.State.{State}
use Rattle.frame.specs.Layout.{parsed}
use Rattle.records.specs.declared.Kind.TheVariants.{Frame, End as EndDue}
use Rattle.records.specs.Records.{due_at, sent_at, in_place}
use Rattle.chain.specs.Chain.{open_in}
use Rattle.reader_progress.specs.declared.Page.{Page}
use Rattle.reader_progress.specs.declared.FileProgress.{FileProgress}
use Rattle.reader_progress.specs.declared.RecordEffect.{RecordEffect}
use Rattle.reader_progress.specs.declared.RecordEffect.TheVariants.{On, Page as Ends}
use Rattle.reader_progress.specs.Progress.{first_progress, page_ending, page_at_end_within}
use Rattle.reader_record.specs.Record.{taken_next, due_within, next_within, columns_at}
use Rattle.reader_record.proofs.Judges.{taken_ends, finished}
use Rattle.reader_judge.specs.File.{FileReading, refused, page, laying, after_record, reading_from_within, reading_by_within, most_octets, file_reading_within, judgement_of, judge_page_within}
use Rattle.reader.specs.Call.{laid_out, read_page_within}
use Rattle.limits.specs.Limits.{lines_in_file, end_in_file}
use Rattle.std.specs.Prelude.{Result, Ok, Err}
use Rattle.records.specs.declared.Kind.{Kind}
use Rattle.refusal.specs.declared.Reason.{Reason}
use Rattle.refusal.specs.declared.Fault.{Fault}

-- ---- what is said within m, of what is said within n

abbrev lowered : ℕ → Result RecordEffect Fault → Result RecordEffect Fault
lowered m (Ok (On r q)) = Ok (On r q)
lowered m (Ok (Ends t)) = cond (leb t.lines m) (Ok (Ends t)) (Err (fault_of TooManyLines))
lowered m (Err f) = Err f

abbrev pub reading_lowered : ℕ → FileReading → FileReading
reading_lowered m (refused number k b) = refused number k b
reading_lowered m (page t cs) = cond (leb t.lines m) (page t cs) (refused 15 (t.octets / 76) 0)

module _ {m n : ℕ} (h : m ≤ n) where
  -- ---- a record

  end_lowered : (p : FileProgress) (k : ℕ) → page_at_end_within m p k ≡ lowered m (page_at_end_within n p k)
  unfolding page_at_end_within
  end_lowered p k = go (ltb 0 (open_in p.image.end)) (ltb 0 p.image.position.column || eqb p.image.position.pair 0) (dec_le (2 * p.image.position.pair) m) (dec_le (2 * p.image.position.pair) n)
    where
      last : ℕ → Result RecordEffect Fault
      last most = cond (ltb most (2 * p.image.position.pair)) (Err (fault_of TooManyLines)) (Ok (Ends (page_ending p p.image.position k)))

      go : (a b : Bool) → Dec (2 * p.image.position.pair ≤ m) → Dec (2 * p.image.position.pair ≤ n) →
          cond a (Err (fault_of PageEndsOpen)) (cond b (Err (fault_of ColumnsNotWholePairs)) (last m)) ≡ lowered m (cond a (Err (fault_of PageEndsOpen)) (cond b (Err (fault_of ColumnsNotWholePairs)) (last n)))
      go true b l r = refl
      go false true l r = refl
      go false false (yes l) r = rw (le-ltb m (2 * p.image.position.pair) l, le-ltb n (2 * p.image.position.pair) (omega arith), le-leb (2 * p.image.position.pair) m l) refl
      go false false (no l) (yes r) = rw (lt-ltb m (2 * p.image.position.pair) (omega arith), le-ltb n (2 * p.image.position.pair) r, lt-leb (2 * p.image.position.pair) m (omega arith)) refl
      go false false (no l) (no r) = rw (lt-ltb m (2 * p.image.position.pair) (omega arith), lt-ltb n (2 * p.image.position.pair) (omega arith)) refl

  -- what does not end the page is said alike
  alike : (x : Result RecordEffect Fault) → ((t : Page) → x ≡ Ok (Ends t) → ⊥) → x ≡ lowered m x
  alike (Ok (On r q)) f = refl
  alike (Ok (Ends t)) f = absurd (f t refl)
  alike (Err x) f = refl

  module _ (c : Check) (file : List ℕ) where
    due_lowered : (k : ℕ) (p : FileProgress) (d : Result Kind Reason) → due_within m c file k p d ≡ lowered m (due_within n c file k p d)
    due_lowered k p (Err reason) = refl
    due_lowered k p (Ok EndDue) = go (in_place EndDue p.stage)
      where
        go : (b : Bool) → cond b (page_at_end_within m p k) (Err (fault_of RecordOutOfPlace)) ≡ lowered m (cond b (page_at_end_within n p k) (Err (fault_of RecordOutOfPlace)))
        go true = end_lowered p k
        go false = refl
    due_lowered k p (Ok (Frame kind)) = go (in_place (Frame kind) p.stage) (taken_next p (parsed c kind (sent_at file k)) (sent_at file k)) (taken_ends p (parsed c kind (sent_at file k)) (sent_at file k))
      where
        go : (b : Bool) (x : Result RecordEffect Fault) → ((t : Page) → x ≡ Ok (Ends t) → ⊥) → cond b x (Err (fault_of RecordOutOfPlace)) ≡ lowered m (cond b x (Err (fault_of RecordOutOfPlace)))
        go true x f = alike x f
        go false x f = refl

    next_lowered : (k : ℕ) (p : FileProgress) → next_within m c file k p ≡ lowered m (next_within n c file k p)
    unfolding next_within
    next_lowered k p = due_lowered k p (due_at file (76 * k))

    -- ---- from a record on

    laying_lowered : (cs : List State) (s : FileReading) → laying cs (reading_lowered m s) ≡ reading_lowered m (laying cs s)
    laying_lowered cs (refused number k b) = refl
    laying_lowered cs (page t ds) = go (leb t.lines m)
      where
        go : (b : Bool) → laying cs (cond b (page t ds) (refused 15 (t.octets / 76) 0)) ≡ cond b (laying cs (page t ds)) (refused 15 (t.octets / 76) 0)
        go true = refl
        go false = refl

    from_lowered : (steps k : ℕ) (p : FileProgress) → reading_from_within m c file steps k p ≡ reading_lowered m (reading_from_within n c file steps k p)
    unfolding reading_from_within
    from_lowered zero k p = refl
    from_lowered (suc steps) k p = rw (next_lowered k p) (go (next_within n c file k p) refl (λ q. from_lowered steps (suc k) q))
      where
        ends : (t : Page) (b : Bool) → t.octets / 76 ≡ k →
            after_record (cond b (Ok (Ends t)) (Err (fault_of TooManyLines))) k (columns_at file k p.image) (λ q. reading_from_within m c file steps (suc k) q) ≡ cond b (page t []) (refused 15 (t.octets / 76) 0)
        ends t true e = refl
        ends t false e = rw e refl

        go : (x : Result RecordEffect Fault) → next_within n c file k p ≡ x → ((q : FileProgress) → reading_from_within m c file steps (suc k) q ≡ reading_lowered m (reading_from_within n c file steps (suc k) q)) →
            after_record (lowered m x) k (columns_at file k p.image) (λ q. reading_from_within m c file steps (suc k) q) ≡
            reading_lowered m (after_record x k (columns_at file k p.image) (λ q. reading_from_within n c file steps (suc k) q))
        go (Err f) e ih = refl
        go (Ok (Ends t)) e ih = ends t (leb t.lines m) (rw (finished n c file k p t e).is (omega arith))
        go (Ok (On r q)) e ih = ap (laying (columns_at file k p.image)) (ih q) ∙ laying_lowered (columns_at file k p.image) (reading_from_within n c file steps (suc k) q)

  -- ---- a file

  pub reading_lowered_lem : (c : Check) (file : List ℕ) → file_reading_within m c file ≡ reading_lowered m (file_reading_within n c file)
  unfolding file_reading_within reading_by_within
  reading_lowered_lem c file = go (allowed_check c)
    where
      go : (b : Bool) →
          cond b (reading_from_within m c (take most_octets file) (length (take most_octets file)) 0 first_progress) (refused 20 0 0) ≡
          reading_lowered m (cond b (reading_from_within n c (take most_octets file) (length (take most_octets file)) 0 first_progress) (refused 20 0 0))
      go true = from_lowered c (take most_octets file) (length (take most_octets file)) 0 first_progress
      go false = refl

  -- ---- the two calls

  module _ (c : Check) (file : List ℕ) where
    pub judged_alike : lines_in_file (file_reading_within n c file) ≤ m → judge_page_within m c file ≡ judge_page_within n c file
    unfolding judge_page_within
    judged_alike l = rw (reading_lowered_lem c file) (go (file_reading_within n c file) l)
      where
        go : (s : FileReading) → lines_in_file s ≤ m → judgement_of (reading_lowered m s) ≡ judgement_of s
        go (refused number k b) l = refl
        go (page t cs) l = rw (le-leb t.lines m l) refl

    pub judged_above : m < lines_in_file (file_reading_within n c file) → judge_page_within m c file ≡ refuses 15 (end_in_file (file_reading_within n c file))
    unfolding judge_page_within
    judged_above l = rw (reading_lowered_lem c file) (go (file_reading_within n c file) l)
      where
        go : (s : FileReading) → m < lines_in_file s → judgement_of (reading_lowered m s) ≡ refuses 15 (end_in_file s)
        go (refused number k b) l = absurd (omega arith)
        go (page t cs) l = rw (lt-leb t.lines m l) refl

    pub read_alike : (o : List ℕ) → lines_in_file (file_reading_within n c file) ≤ m → read_page_within m c file o ≡ read_page_within n c file o
    unfolding read_page_within
    read_alike o l = rw (reading_lowered_lem c file) (go (file_reading_within n c file) l)
      where
        go : (s : FileReading) → lines_in_file s ≤ m → laid_out (reading_lowered m s) o ≡ laid_out s o
        go (refused number k b) l = refl
        go (page t cs) l = rw (le-leb t.lines m l) refl

    pub read_above : (o : List ℕ) → m < lines_in_file (file_reading_within n c file) → read_page_within m c file o ≡ (refuses 15 (end_in_file (file_reading_within n c file)), o)
    unfolding read_page_within
    read_above o l = rw (reading_lowered_lem c file) (go (file_reading_within n c file) l)
      where
        go : (s : FileReading) → m < lines_in_file s → laid_out (reading_lowered m s) o ≡ (refuses 15 (end_in_file s), o)
        go (refused number k b) l = absurd (omega arith)
        go (page t cs) l = rw (lt-leb t.lines m l) refl

-- ---- what was accepted says its lines

module _ (n : ℕ) (c : Check) (file : List ℕ) where
  pub judged_says : (t : Page) → judge_page_within n c file ≡ gives t → (lines_in_file (file_reading_within n c file) ≡ t.lines) × (end_in_file (file_reading_within n c file) ≡ t.octets / 76)
  unfolding judge_page_within
  judged_says t e = go (file_reading_within n c file) e
    where
      go : (s : FileReading) → judgement_of s ≡ gives t → (lines_in_file s ≡ t.lines) × (end_in_file s ≡ t.octets / 76)
      go (refused number k b) e = absurd (not_accepted e)
      go (page u cs) e = let z : u ≡ t = cc in rw z (refl, refl)

  pub read_says : (o p : List ℕ) (t : Page) → read_page_within n c file o ≡ (gives t, p) → (lines_in_file (file_reading_within n c file) ≡ t.lines) × (end_in_file (file_reading_within n c file) ≡ t.octets / 76)
  unfolding read_page_within
  read_says o p t e = go (file_reading_within n c file) e
    where
      go : (s : FileReading) → laid_out s o ≡ (gives t, p) → (lines_in_file s ≡ t.lines) × (end_in_file s ≡ t.octets / 76)
      go (refused number k b) e = absurd (not_accepted (ap (λ (x : Outcome Page ℕ). x.0) e))
      go (page u cs) e = rw (accepted u t (u.octets / 76) (bitmap_of (u.lines / 2) cs) o p e).value_is (refl, refl)
