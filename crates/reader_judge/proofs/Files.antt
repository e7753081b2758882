-- A file, record by record: what is judged from a record on, what stays small, and what a file that is a page has laid. Assumes nothing.
use mathlib.Core.Path.{◌≡◌, refl, sym, ap, ◌∙◌}
use mathlib.Core.List.{List, [], ◌++◌}
use Prim.Native.Nat.{ℕ, zero, suc, ◌+◌, ◌-◌, ◌*◌, ◌≤◌, ◌<◌, ◌^◌}
use native.Mathlib.Numerals.{add-one}
use native.Mathlib.Nat.{sub-zero}
use native.Mathlib.Omega.{arith}
use lib.ListN.{length, length-append}
use borrow.Author.Tests.{ne_eqb}
use Rattle.basics.proofs.Apart.{differ}
use Rattle.refusal.specs.declared.Fault.{Fault}
use Rattle.register.specs.declared.Check.{Check}
use Rattle.state.specs.declared.State.{State}
use Rattle.frame.specs.Layout.{header_of}
use Rattle.bitmap.specs.Validity.{most_lines}
use Rattle.position.specs.Position.{pels_per_line, columns_before}
use Rattle.reader_progress.specs.declared.Page.{Page}
use Rattle.chain.specs.declared.Image.{Image}
use Rattle.reader_progress.specs.declared.FileProgress.{FileProgress}
use Rattle.reader_progress.specs.declared.RecordEffect.{RecordEffect}
use Rattle.reader_progress.specs.declared.RecordEffect.TheVariants.{On, Page as Ends}
use Rattle.frame.specs.declared.FrameKind.TheVariants.{SetUp, Data}
use Rattle.frame.specs.declared.Record.{Record as FrameRecord}
use Rattle.records.specs.declared.Kind.TheVariants.{Frame}
use Rattle.records.specs.Records.{sent_at}
use Rattle.reader_progress.specs.Progress.{first_progress}
use Rattle.reader_record.specs.Record.{next_within, next, columns_at}
use Rattle.refusal.specs.Fault.{at_record}
use Rattle.refusal.specs.Reply.{gives, refuses_by, BitFits}
use Rattle.reader_judge.specs.File.{FileReading, refused, page, laying, after_record, reading_from_within, file_reading_from, reading_by_within, file_reading_by, judgement_of, most_octets}
use Rattle.reader_judge.specs.Laws.{place_of}
use Rattle.reader_record.specs.LayingPass.{image_by, image_at, columns_over}
use Rattle.records.proofs.Order.{due_missing, due_room}
use Rattle.reader_record.proofs.Judges.{not_due, RecordAccepted, set_up, no_bits, frame, went, stopped_bit, Finished, finished}
use Rattle.reader_record.proofs.Grows.{record_grows}
use Rattle.std.specs.Prelude.{Result, Ok, Err}

-- ---- one record after the other

-- A record, then the rest. Where the bound on records is used up there is no record left.
pub said_step : (c : Check) (file : List ℕ) (k : ℕ) (p : FileProgress) →
    file_reading_from c file (length file - k) k p ≡ after_record (next c file k p) k (columns_at file k p.image) (λ q. file_reading_from c file (length file - suc k) (suc k) q)
unfolding reading_from_within
said_step c file k p = go (length file - k) refl
  where
    go : (n : ℕ) → length file - k ≡ n → file_reading_from c file n k p ≡ after_record (next c file k p) k (columns_at file k p.image) (λ q. file_reading_from c file (length file - suc k) (suc k) q)
    go zero e = rw (sym (not_due c file k p (sym (due_missing file (76 * k) (omega arith))))) refl
    go (suc n) e = let z : length file - suc k ≡ n = omega arith in rw z refl

-- columns that are laid before do not change the judgement
pub laying_judged : (cs : List State) (s : FileReading) → judgement_of (laying cs s) ≡ judgement_of s
laying_judged cs (refused n j b) = refl
laying_judged cs (page t ds) = refl

module _ (c : Check) (file : List ℕ) (k : ℕ) (p : FileProgress) where
  pub judged_refused : {f : Fault} → next c file k p ≡ Err f → judgement_of (file_reading_from c file (length file - k) k p) ≡ refuses_by (at_record f k)
  judged_refused e = ap judgement_of (said_step c file k p) ∙ rw e refl

  pub judged_page : {t : Page} → next c file k p ≡ Ok (Ends t) → judgement_of (file_reading_from c file (length file - k) k p) ≡ gives t
  judged_page e = ap judgement_of (said_step c file k p) ∙ rw e refl

  pub judged_on : {r : FrameRecord} {q : FileProgress} → next c file k p ≡ Ok (On r q) → judgement_of (file_reading_from c file (length file - k) k p) ≡ judgement_of (file_reading_from c file (length file - (k + 1)) (k + 1) q)
  judged_on {r} {q} e = ap judgement_of (said_step c file k p) ∙ rw (e, add-one k) (laying_judged (columns_at file k p.image) (file_reading_from c file (length file - suc k) (suc k) q))

-- ---- where the file goes on

pub went_image : {file : List ℕ} {k : ℕ} {p q : FileProgress} {r : FrameRecord} → RecordAccepted file k p r q → image_at file k p.image ≡ q.image
unfolding image_at image_by
went_image (set_up d g) = rw d refl
went_image {file} {k} (no_bits d z) = rw (d, z) refl
went_image {file} {k} (frame d z g y) = rw (d, ne_eqb (header_of (sent_at file k)).count 0 z, y) refl

pub went_room : {file : List ℕ} {k : ℕ} {p q : FileProgress} {r : FrameRecord} → RecordAccepted file k p r q → 76 * k + 76 ≤ length file
went_room {file} {k} (set_up d g) = due_room file (76 * k) (Frame SetUp) d
went_room {file} {k} (no_bits d z) = due_room file (76 * k) (Frame Data) d
went_room {file} {k} (frame d z g y) = due_room file (76 * k) (Frame Data) d

went_sequence : {file : List ℕ} {k : ℕ} {p q : FileProgress} {r : FrameRecord} → RecordAccepted file k p r q → p.sequence < 4 → q.sequence < 4
went_sequence (set_up d g) h = h
went_sequence (no_bits d z) h = omega arith
went_sequence (frame d z g y) h = omega arith

-- before record k: what is judged from here on is what is judged from the start on
pub record Judging (c : Check) (file : List ℕ) (k : ℕ) (p : FileProgress) : Type 0 where
  pub same : judgement_of (file_reading_from c file (length file - k) k p) ≡ judgement_of (file_reading_by c file)
  pub inside : 76 * k ≤ length file
  pub sequence : p.sequence < 4
  pub bits : p.image.bits.0 ≤ 512 * k
  pub columns : columns_before p.image.position ≤ 9272 * k

pub judging_first : (c : Check) (file : List ℕ) → Judging c file 0 first_progress
unfolding reading_by_within
judging_first c file = record { same = rw (sub-zero (length file)) refl; inside = omega arith; sequence = omega arith; bits = omega arith; columns = omega arith }

module _ {c : Check} {file : List ℕ} {k : ℕ} {p : FileProgress} (j : Judging c file k p) where
  pub judging_small : length file ≤ most_octets → (k < 2 ^ 40) × (p.sequence < 4) × (columns_before p.image.position < 2 ^ 60) × (p.image.bits.0 < 2 ^ 60)
  unfolding most_octets
  judging_small h = let i = j.inside in (omega arith, j.sequence, omega (arith, j.columns), omega (arith, j.bits))

  pub judging_next : {r : FrameRecord} {q : FileProgress} → next c file k p ≡ Ok (On r q) → Judging c file (k + 1) q
  judging_next {r} {q} e = let w = went c file k p r q e in
      let g = rw (went_image w) at (record_grows file k p.image) in
      record {
        same = sym (judged_on c file k p e) ∙ j.same;
        inside = omega (arith, went_room w);
        sequence = went_sequence w j.sequence;
        bits = omega (arith, g.bits, j.bits);
        columns = omega (arith, g.columns, g.few, j.columns);
      }

  pub judging_less : {r : FrameRecord} {q : FileProgress} → next c file k p ≡ Ok (On r q) → 76 * (k + 1) ≤ length file
  judging_less {r} {q} e = omega (arith, went_room (went c file k p r q e))

-- ---- a file that is a page

-- the same from record k on: the records before the end record lay the page's columns, and as many as the page says
pub record FactsFrom (file : List ℕ) (k : ℕ) (p : FileProgress) (t : Page) (cs : List State) : Type 0 where
  pub records : ℕ
  pub octets : t.octets ≡ 76 * (k + records) + 2
  pub columns : cs ≡ columns_over file records k p.image
  pub count : columns_before p.image.position + length cs ≡ t.columns.0
  pub pairs : ℕ
  pub whole : t.columns.0 ≡ pels_per_line * pairs
  pub lines : t.lines ≡ 2 * pairs
  pub few : t.lines ≤ most_lines
  pub inside : t.octets ≤ length file

paged_end : {k : ℕ} {p : FileProgress} {t : Page} (file : List ℕ) → Finished most_lines file p k t → FactsFrom file k p t []
unfolding columns_over
paged_end {k} {p} file f = rw f.is (record { records = 0; octets = omega arith; columns = refl; count = omega arith; pairs = p.image.position.pair; whole = omega (arith, f.whole); lines = refl; few = f.few; inside = f.inside })

paged_on : {k : ℕ} {p q : FileProgress} {r : FrameRecord} {t : Page} {cs : List State} (file : List ℕ) → RecordAccepted file k p r q → FactsFrom file (suc k) q t cs → FactsFrom file k p t (columns_at file k p.image ++ cs)
unfolding columns_over
paged_on {k} {p} {q} {r} {t} {cs} file w g =
    let i = went_image w in
    let b = (record_grows file k p.image).columns in
    record {
      records = suc g.records;
      octets = omega (arith, g.octets);
      columns = rw (i, g.columns) refl;
      count = simp length-append (omega (arith, g.count, b, ap (λ (x : Image). columns_before x.position) i));
      pairs = g.pairs;
      whole = g.whole;
      lines = g.lines;
      few = g.few;
      inside = g.inside;
    }

pub paged : (c : Check) (file : List ℕ) (n k : ℕ) (p : FileProgress) (t : Page) (cs : List State) → file_reading_from c file n k p ≡ page t cs → FactsFrom file k p t cs
unfolding reading_from_within
paged c file zero k p t cs e = differ cc
paged c file (suc n) k p t cs e = by (paged c file n (suc k)) (next c file k p) refl e
  where
    rest : {r : FrameRecord} (q : FileProgress) (s : FileReading) → laying (columns_at file k p.image) s ≡ page t cs → ((ds : List State) → s ≡ page t ds → FactsFrom file (suc k) q t ds) → RecordAccepted file k p r q → FactsFrom file k p t cs
    rest q (refused n j b) e g w = differ cc
    rest q (page u ds) e g w =
        let a : u ≡ t = cc in let b : columns_at file k p.image ++ ds ≡ cs = cc in
        rw (sym b) (paged_on file w (g ds (ap (λ (x : Page). page x ds) a)))

    by : ((q : FileProgress) (t : Page) (ds : List State) → file_reading_from c file n (suc k) q ≡ page t ds → FactsFrom file (suc k) q t ds) →
        (x : Result RecordEffect Fault) → next c file k p ≡ x → after_record x k (columns_at file k p.image) (λ q. file_reading_from c file n (suc k) q) ≡ page t cs → FactsFrom file k p t cs
    by go (Err x) f e = differ cc
    by go (Ok (Ends u)) f e = let a : u ≡ t = cc in let b : [] ≡ cs = cc in rw (sym b) (paged_end file (finished most_lines c file k p t (f ∙ ap (λ (x : Page). Ok (Ends x)) a)))
    by go (Ok (On r q)) f e = rest q (file_reading_from c file n (suc k) q) e (go q t) (went c file k p r q f)

-- ---- where a file is refused

pub place_within : (c : Check) (file : List ℕ) (n k : ℕ) (p : FileProgress) → 76 * k ≤ length file → 76 * place_of (judgement_of (file_reading_from c file n k p)) ≤ length file
unfolding reading_from_within
place_within c file zero k p h = h
place_within c file (suc n) k p h = by (place_within c file n (suc k)) (next c file k p) refl
  where
    by : ((q : FileProgress) → 76 * suc k ≤ length file → 76 * place_of (judgement_of (file_reading_from c file n (suc k) q)) ≤ length file) →
        (x : Result RecordEffect Fault) → next c file k p ≡ x → 76 * place_of (judgement_of (after_record x k (columns_at file k p.image) (λ q. file_reading_from c file n (suc k) q))) ≤ length file
    by go (Err g) f = h
    by go (Ok (Ends t)) f = let e : t.octets ≡ 76 * k + 2 = ap (λ (u : Page). u.octets) (finished most_lines c file k p t f).is in omega arith
    by go (Ok (On r q)) f = rw (laying_judged (columns_at file k p.image) (file_reading_from c file n (suc k) q)) (go q (omega (arith, went_room (went c file k p r q f))))

-- with 11 goes a bit of the record's data part, and with every other number 0; of any limit of lines
pub bit_fits : (most : ℕ) (c : Check) (file : List ℕ) (n k : ℕ) (p : FileProgress) → BitFits (judgement_of (reading_from_within most c file n k p))
unfolding reading_from_within
bit_fits most c file zero k p = (λ n. refl, omega arith)
bit_fits most c file (suc n) k p = by (bit_fits most c file n (suc k)) (next_within most c file k p) refl
  where
    by : ((q : FileProgress) → BitFits (judgement_of (reading_from_within most c file n (suc k) q))) →
        (x : Result RecordEffect Fault) → next_within most c file k p ≡ x → BitFits (judgement_of (after_record x k (columns_at file k p.image) (λ q. reading_from_within most c file n (suc k) q)))
    by go (Err g) f = stopped_bit most c file k p g f
    by go (Ok (Ends t)) f = tt
    by go (Ok (On r q)) f = rw (laying_judged (columns_at file k p.image) (reading_from_within most c file n (suc k) q)) (go q)
