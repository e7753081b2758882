-- What is said by a file that was written, record by record: the set-up record gives the settings, the frame of count 0 nothing, each image frame
-- the columns that the chain of frames gives it, and the end record finds whole row pairs and no open column. Assumes nothing.
use mathlib.Core.Path.{◌≡◌, refl, sym, ap, ◌∙◌}
use mathlib.Core.Bool.{true, false, cond}
use mathlib.Core.List.{List, [], ◌∷◌, ◌++◌, append_assoc}
use Prim.Native.Nat.{ℕ, zero, suc, ◌+◌, ◌*◌, ◌-◌, ◌%◌, ◌≤◌, ◌<◌}
use native.Mathlib.Nat.{add-zero}
use native.Mathlib.Omega.{arith}
use lib.Dec.{eqb}
use lib.ListN.{length, take, drop, length-append}
use lib.Seq.{take-append-add}
use borrow.Author.Tests.{eq-eqb, ne_eqb}
use Rattle.octets.specs.Bits.{Bit}
use Rattle.register.specs.declared.Check.{Check}
use Rattle.register.specs.Setting.{allowed_check}
use Rattle.state.specs.declared.State.{State}
use Rattle.frame.specs.declared.FrameKind.TheVariants.{Data as DataFrame}
use Rattle.frame.specs.declared.Record.{Record as FrameRecord}
use Rattle.frame.specs.declared.Record.TheVariants.{SetUp, Data}
use Rattle.settings.specs.declared.Settings.{Settings}
use Rattle.frame.specs.Layout.{check_agrees, parsed, data_front, set_up_front, sent_frame, end_record}
use Rattle.frame.proofs.RoundTrip.{header_back, data_taken, length_data, set_up_taken, length_set_up_front}
use Rattle.diagram.specs.declared.Context.{Context}
use Rattle.diagram.specs.Diagram.{Place, counted, ValidContext}
use Rattle.bitmap.specs.Validity.{most_lines}
use Rattle.bitmap.proofs.Pels.{most_small}
use Rattle.bitmap.proofs.Taken.{lines_pass}
use Rattle.position.specs.Position.{columns_before}
use Rattle.chain.specs.declared.Image.{Image}
use Rattle.reader_progress.specs.declared.Page.{Page}
use Rattle.reader_progress.specs.declared.FileProgress.{FileProgress}
use Rattle.reader_progress.specs.declared.RecordEffect.TheVariants.{On, Page as Ends}
use Rattle.records.specs.declared.Kind.TheVariants.{Frame as Framed}
use Rattle.records.specs.declared.Stage.TheVariants.{Datas}
use Rattle.records.specs.Records.{due_at, sent_at, in_place}
use Rattle.chain.specs.Chain.{blank, open_in, opening, frame_columns}
use Rattle.reader_progress.specs.Progress.{first_progress, with_set_up, with_data}
use Rattle.reader_record.specs.Record.{data_next, next, columns_at}
use Rattle.reader_judge.specs.File.{page, laying, reading_from_within, file_reading_from, reading_by_within, most_octets, file_reading_within, file_reading}
use Rattle.reader_progress.proofs.Ended.{whole_page}
use Rattle.reader_record.proofs.Judges.{no_image, image_frame, in_its_place}
use Rattle.units.specs.Units.{bits_of_steps}
use Rattle.writer_fill.specs.Frames.{Frame, frames_of}
use Rattle.writer_file.specs.File.{header_for, filled_up, set_up_record, data_record, data_records, no_frame, file_of}
use Rattle.writer.specs.Call.{not_encodable}
use Rattle.writer_file.proofs.Sizes.{length_file}
use Rattle.roundtrip.specs.Sizes.{bits_in}
use Rattle.roundtrip.proofs.LastColumn.{from_left}
use Rattle.roundtrip.proofs.Chain.{after, Follows, Chain, no_frames, and_frame, chain_bits, chain_columns, chain_column, valid_page_start, page_chain, few_frames}
use Rattle.roundtrip.proofs.Records.{end_due, data_due, set_up_due, sent_there, frame_rest}
use Rattle.roundtrip.proofs.Frames.{sent_data, length_filled, header_fits, taken_frame}
use Rattle.std.specs.Prelude.{Ok}

-- the reading setting finds the checks of the writing one right
abbrev pub Right : Check → Check → Type 0
Right r c = (front : List Bit) → length front ≡ 573 → check_agrees r (sent_frame c front) ≡ true

module _ (r : Check) (file : List ℕ) (k : ℕ) (p : FileProgress) where
  -- where record k goes on to q and lays these columns
  record Goes (x : FrameRecord) (q : FileProgress) (cs : List State) : Type 0 where
    on : next r file k p ≡ Ok (On x q)
    lays : columns_at file k p.image ≡ cs

  said_on : (n : ℕ) {x : FrameRecord} {q : FileProgress} {cs : List State} → Goes x q cs → file_reading_from r file (suc n) k p ≡ laying cs (file_reading_from r file n (suc k) q)
  unfolding reading_from_within
  said_on n g = rw (g.on, g.lays) refl

  said_ends : (n : ℕ) {t : Page} → next r file k p ≡ Ok (Ends t) → file_reading_from r file (suc n) k p ≡ page t []
  unfolding reading_from_within
  said_ends n e = rw e refl

  module _ (c : Check) (right : Right r c) (rest : List ℕ) where
    set_up_goes : (g : Settings) → drop (76 * k) file ≡ set_up_record c g ++ rest → Goes (SetUp g) (with_set_up p g) []
    unfolding columns_at
    set_up_goes g e =
        let d = set_up_due c file k (set_up_front g) rest e in
        let s = sent_there c file k (set_up_front g) rest 56 e in
        record {
          on = sym (in_its_place r file k p d refl) ∙ rw (s, set_up_taken r c g (right (set_up_front g) (length_set_up_front g))) refl;
          lays = rw d refl;
        }

    module _ (i : ℕ) (f : Frame) (place : in_place (Framed DataFrame) p.stage ≡ true) (sequence : p.sequence ≡ i % 4) (e : drop (76 * k) file ≡ data_record c i f ++ rest)
        (few : length (bits_of_steps f.steps) ≤ 508) (valid : ValidContext f.start.context) where
      full_bits : length (filled_up (bits_of_steps f.steps)) ≡ 512
      full_bits = length_filled (bits_of_steps f.steps) (omega arith)

      sent : sent_at file k ≡ sent_data c i f
      sent = sent_there c file k (data_front (header_for i f) (filled_up (bits_of_steps f.steps))) rest 57 e

      due : due_at file (76 * k) ≡ Ok (Framed DataFrame)
      due = data_due c file k (data_front (header_for i f) (filled_up (bits_of_steps f.steps))) rest e

      taken : parsed r DataFrame (sent_data c i f) ≡ Ok (Data (header_for i f))
      taken = data_taken r c (header_for i f) (filled_up (bits_of_steps f.steps)) full_bits (header_fits i f few valid) (right _ (length_data (header_for i f) (filled_up (bits_of_steps f.steps)) full_bits))

      next_by : data_next p (header_for i f) (sent_data c i f) ≡ next r file k p
      next_by = rw (sent, taken) at (in_its_place r file k p due place)

      lays_by : cond (eqb (length (bits_of_steps f.steps)) 0) [] (frame_columns p.image (header_for i f) (sent_data c i f)) ≡ columns_at file k p.image
      unfolding columns_at
      lays_by = rw (due, sent, header_back c (header_for i f) (filled_up (bits_of_steps f.steps)) full_bits (header_fits i f few valid)) refl

      -- a frame of count 0 lays nothing
      empty_goes : length (bits_of_steps f.steps) ≡ 0 → Goes (Data (header_for i f)) (with_data p p.image) []
      empty_goes z = record {
        on = sym (no_image p (header_for i f) (sent_data c i f) (sym sequence) z ∙ next_by);
        lays = sym lays_by ∙ rw (eq-eqb (length (bits_of_steps f.steps)) 0 z) refl;
      }

      -- an image frame lays what the chain gives it
      frame_goes : {q : Place} {cx : Context} → Follows p.image f q cx → Goes (Data (header_for i f)) (with_data p (after p.image f q cx)) (opening p.image.end f.start.state ++ counted f.steps)
      frame_goes w =
          let z : length (bits_of_steps f.steps) ≡ 0 → ⊥ = λ z. omega (arith, w.some) in
          let t = taken_frame c i w in
          record {
            on = sym (image_frame p (header_for i f) (sent_data c i f) (sym sequence) z (sym t.is) ∙ next_by);
            lays = sym lays_by ∙ rw (ne_eqb (length (bits_of_steps f.steps)) 0 z) t.lays;
          }

-- ---- the image frames and the end record

-- among the data records
abbrev pub among : Settings → ℕ → Image → FileProgress
among g sequence im = record { stage = Datas; settings = g; sequence = sequence; image = im }

-- the image of a page of so many row pairs
pub record Whole (im : Image) (pairs : ℕ) : Type 0 where
  pub shut : open_in im.end ≡ 0
  pub pair : im.position.pair ≡ pairs
  pub column : im.position.column ≡ 0
  pub some : 0 < pairs
  pub few : 2 * pairs ≤ most_lines

-- what is said of it, at the end record, record k
abbrev pub page_of : Settings → Image → ℕ → ℕ → Page
page_of g im pairs k = record { octets = 76 * k + 2; lines = 2 * pairs; settings = g; bits = im.bits; columns = record { 0 = columns_before im.position } }

ends_page_lem : (r : Check) (file : List ℕ) (k pairs : ℕ) (p : FileProgress) (rest : List ℕ) → p.stage ≡ Datas → Whole p.image pairs → drop (76 * k) file ≡ end_record ++ rest →
    next r file k p ≡ Ok (Ends (page_of p.settings p.image pairs k))
ends_page_lem r file k pairs p rest d w e =
    let m = w.some in
    let l : 2 * p.image.position.pair ≡ 2 * pairs = omega (arith, w.pair) in
    let a = whole_page p k w.shut w.column (λ z. omega (arith, w.pair)) (rw l (lines_pass (record { some = omega arith; even = omega arith; few = w.few }))) in
    sym (in_its_place r file k p (end_due file k rest e) (rw d refl)) ∙ sym a ∙ rw l refl

frames_said : {im jm : Image} {fs : List Frame} {cs : List State} → Chain im fs cs jm → (r c : Check) → Right r c → (file rest : List ℕ) (g : Settings) (pairs n k i sequence : ℕ) →
    length fs < n → sequence ≡ i % 4 → Whole jm pairs → drop (76 * k) file ≡ data_records c i fs ++ (end_record ++ rest) →
    file_reading_from r file n k (among g sequence im) ≡ page (page_of g jm pairs (k + length fs)) cs
unfolding data_records
frames_said no_frames r c right file rest g pairs zero k i sequence h s w e = absurd (omega arith)
frames_said {im} no_frames r c right file rest g pairs (suc n) k i sequence h s w e =
    said_ends r file k (among g sequence im) n (ends_page_lem r file k pairs (among g sequence im) rest refl w e) ∙ rw (add-zero k) refl
frames_said {im} (and_frame a x) r c right file rest g pairs zero k i sequence h s w e = absurd (omega arith)
frames_said {im} {jm} (and_frame {f = f} {fs = fs} {cs = cs} a x) r c right file rest g pairs (suc n) k i sequence h s w e =
    let others : List ℕ = data_records c (suc i) fs ++ (end_record ++ rest) in
    let y : drop (76 * k) file ≡ data_record c i f ++ others = e ∙ append_assoc (data_record c i f) (data_records c (suc i) fs) (end_record ++ rest) in
    let o = frame_goes r file k (among g sequence im) c right others i f refl s y a.few a.valid a in
    let z = frame_rest c file k (data_front (header_for i f) (filled_up (bits_of_steps f.steps))) others 57 y in
    let m : suc k + length fs ≡ k + suc (length fs) = omega arith in
    said_on r file k (among g sequence im) n o
    ∙ ap (laying (opening im.end f.start.state ++ counted f.steps)) (frames_said x r c right file rest g pairs n (suc k) (suc i) ((sequence + 1) % 4) (omega arith) (omega arith) w z)
    ∙ rw m refl

-- ---- the whole file

module _ (c : Check) (g : Settings) (most : ℕ) (cs : List State) (rest : List ℕ) where
  frame_records : List ℕ
  frame_records = data_records c 1 (frames_of most cs) ++ (end_record ++ rest)

  file_apart : file_of c g most cs ++ rest ≡ set_up_record c g ++ (data_record c 0 no_frame ++ frame_records)
  unfolding file_of data_records frame_records
  file_apart =
      let fs : List Frame = no_frame ∷ frames_of most cs in
      append_assoc (set_up_record c g) (data_records c 0 fs ++ end_record) rest
      ∙ ap (λ (s : List ℕ). set_up_record c g ++ s) (append_assoc (data_records c 0 fs) end_record rest ∙ append_assoc (data_record c 0 no_frame) (data_records c 1 (frames_of most cs)) (end_record ++ rest))

  -- from the first record on
  records_said : (r : Check) → Right r c → {jm : Image} (pairs n : ℕ) → Chain blank (frames_of most cs) cs jm → length (frames_of most cs) < n → Whole jm pairs →
      file_reading_from r (file_of c g most cs ++ rest) (suc (suc n)) 0 first_progress ≡ page (page_of g jm pairs (2 + length (frames_of most cs))) cs
  unfolding frame_records bits_of_steps
  records_said r right {jm} pairs n x h w =
      let file : List ℕ = file_of c g most cs ++ rest in
      let a = set_up_goes r file 0 first_progress c right (data_record c 0 no_frame ++ frame_records) g file_apart in
      let y = frame_rest c file 0 (set_up_front g) (data_record c 0 no_frame ++ frame_records) 56 file_apart in
      let b = empty_goes r file 1 (with_set_up first_progress g) c right frame_records 0 no_frame refl refl y (omega arith) valid_page_start refl in
      let z = frame_rest c file 1 (data_front (header_for 0 no_frame) (filled_up [])) frame_records 57 y in
      said_on r file 0 first_progress (suc n) a
      ∙ ap (laying []) (said_on r file 1 (with_set_up first_progress g) n b ∙ ap (laying []) (frames_said x r c right file rest g pairs n 2 1 1 h refl w z))

-- ---- the theorem on columns

few_octets : (a b : ℕ) → a ≡ 76 * (2 + b) + 2 → (n pairs : ℕ) → b ≤ suc n → n ≡ 1726 * pairs → 2 * pairs ≤ most_lines → a ≤ most_octets
unfolding most_octets
few_octets a b e n pairs h k l = omega (arith, most_small)

taken_octets : (file rest : List ℕ) → length file ≤ most_octets → (more : List ℕ) × (take most_octets (file ++ rest) ≡ file ++ more)
taken_octets file rest h =
    let e : most_octets ≡ length file + (most_octets - length file) = omega arith in
    (take (most_octets - length file) rest, ap (λ (n : ℕ). take n (file ++ rest)) e ∙ take-append-add file rest (most_octets - length file))

module _ (r c : Check) (right : Right r c) (allowed : allowed_check r ≡ true) where
  -- What is said by a file that was written, whatever stands behind it.
  pub file_reading_lem : (g : Settings) (most pairs : ℕ) (cs : List State) (rest : List ℕ) → 0 < pairs → 2 * pairs ≤ most_lines → length cs ≡ 1726 * pairs → not_encodable cs ≡ false →
      file_reading r (file_of c g most cs ++ rest) ≡
      page (record { octets = length (file_of c g most cs); lines = 2 * pairs; settings = g; bits = record { 0 = bits_in (frames_of most cs) }; columns = record { 0 = length cs } }) cs
  unfolding file_reading_within reading_by_within
  file_reading_lem g most pairs cs rest some few size e =
      let x = page_chain most cs (from_left cs (λ z. omega arith) ∙ e) in
      let l = length_file c g most cs in
      let a = chain_bits x.chain in
      let b = chain_columns x.chain in
      let m = taken_octets (file_of c g most cs) rest (few_octets (length (file_of c g most cs)) (length (frames_of most cs)) l (length cs) pairs (few_frames most cs) size few) in
      let file : List ℕ = file_of c g most cs ++ m.0 in
      let i = length-append (file_of c g most cs) m.0 in
      let n : length file ≡ suc (suc (length file - 2)) = omega arith in
      let y = chain_column x.chain (omega arith) in
      let w : Whole x.image pairs = record { shut = x.shut; pair = omega arith; column = omega arith; some = some; few = few } in
      let u : x.image.bits.0 ≡ bits_in (frames_of most cs) = omega arith in
      let v : columns_before x.image.position ≡ length cs = omega arith in
      rw (allowed, m.1)
      (ap (λ (k : ℕ). file_reading_from r file k 0 first_progress) n ∙ records_said c g most cs m.0 r right pairs (length file - 2) x.chain (omega arith) w
      ∙ (λ j. page (record { octets = sym l j; lines = 2 * pairs; settings = g; bits = record { 0 = u j }; columns = record { 0 = v j } }) cs))
