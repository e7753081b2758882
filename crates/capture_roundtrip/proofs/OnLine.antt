-- The frames of a capture of good records: each gap is passed over, each frame is taken, and the records of what is taken are the file.
-- Assumes nothing.
use mathlib.Core.Path.{◌≡◌, refl, sym, ap, ap₂, subst, ◌∙◌}
use mathlib.Core.Bool.{true, false}
use mathlib.Core.List.{List, [], ◌∷◌, ◌++◌, append_assoc}
use Prim.Native.Nat.{ℕ, zero, suc, ◌+◌, ◌*◌, ◌-◌, ◌/◌, ◌%◌, ◌^◌, ◌≤◌, ◌<◌}
use native.Mathlib.Nat.{add-zero}
use native.Mathlib.Omega.{arith}
use lib.ListN.{length, take, drop, length-append, length-drop}
use lib.Seq.{take_at, drop_at, drop-append-le}
use borrow.Author.Tests.{le-leb}
use Rattle.octets.specs.Bits.{Bit, num, bits_from, high_first, number_at, packed}
use Rattle.octets.proofs.Fields.{length_bits, bits_take, bits_behind}
use Rattle.octets.proofs.Packed.{length_packed, octet_packed}
use Rattle.turning.specs.Turned.{turned_from}
use Rattle.turning.proofs.Turned.{length_turned, turned_back}
use Rattle.basics.specs.Octets.{Octets}
use Rattle.register.specs.declared.Check.{Check}
use Rattle.frame.specs.declared.FrameKind.{FrameKind}
use Rattle.frame.specs.declared.FrameKind.TheVariants.{SetUp, Data}
use Rattle.frame.specs.Layout.{sync, sync_agrees, check_agrees, kind_of, record_of, end_record}
use Rattle.frame.proofs.Frames.{length_sync}
use Rattle.records.specs.Records.{frame_at}
use Rattle.records.proofs.Within.{record_sent}
use Rattle.capture.specs.Frames.{captured_at, has_room, stands, taken_from}
use Rattle.capture.specs.Find.{list_of}
use Rattle.capture.specs.Extract.{record_of_frame, records_of_list}
use Rattle.capture.proofs.Taken.{no_sync_there, taken_there, taken_later}
use Rattle.capture_roundtrip.specs.Line.{line_of, Quiet, AllQuiet, and}

-- ---- numbers of bits

high_append : (k : ℕ) (xs ys : List Bit) → k ≤ length xs → high_first k (xs ++ ys) ≡ high_first k xs
unfolding high_first
high_append zero xs ys h = refl
high_append (suc k) [] ys h = absurd (omega arith)
high_append (suc k) (x ∷ xs) ys h = ap (λ (n : ℕ). num x * 2 ^ k + n) (high_append k xs ys (omega arith))

high_take : (k : ℕ) (xs : List Bit) → high_first k (take k xs) ≡ high_first k xs
unfolding high_first
high_take zero xs = refl
high_take (suc k) [] = refl
high_take (suc k) (x ∷ xs) = ap (λ (n : ℕ). num x * 2 ^ k + n) (high_take k xs)

-- ---- a record and its frame

-- a frame in sent order that is taken, and whose octets say just its bits
pub record Good (c : Check) (f : List ℕ) : Type 0 where
  pub more : List Bit
  pub begins : bits_from f 0 585 ≡ sync ++ more
  pub says : packed 74 (bits_from f 0 585) ≡ f
  pub sync_right : sync_agrees f ≡ true
  pub check_right : check_agrees c f ≡ true

-- so many records of such frames, and the end record
pub data Records (c : Check) : List ℕ → ℕ → Type 0 where
  last : Records c end_record 0
  before : {f tail : List ℕ} {n : ℕ} → Good c f → Records c tail n → Records c (record_of_frame f ++ tail) (suc n)

module _ (c : Check) (f : List ℕ) (g : Good c f) where
  length_good : length f ≡ 74
  length_good = ap length (sym g.says) ∙ length_packed 74 _

  octets_good : Octets f
  octets_good = subst Octets g.says (octet_packed 74 _)

  length_record : (k : FrameKind) → length (record_of k (turned_from f 0 74)) ≡ 76
  length_record SetUp = ap (λ (n : ℕ). suc (suc n)) (length_turned f 0 74)
  length_record Data = ap (λ (n : ℕ). suc (suc n)) (length_turned f 0 74)

  record_frame : (k : FrameKind) (tail : List ℕ) → frame_at (record_of k (turned_from f 0 74) ++ tail) 0 ≡ f
  record_frame SetUp tail = record_sent _ 0 76 56 (turned_from f 0 74) tail refl (length_turned f 0 74) ∙ turned_back f 74 length_good octets_good
  record_frame Data tail = record_sent _ 0 76 57 (turned_from f 0 74) tail refl (length_turned f 0 74) ∙ turned_back f 74 length_good octets_good

  record_behind : (tail : List ℕ) → drop 76 (record_of_frame f ++ tail) ≡ tail
  record_behind tail = drop_at (record_of_frame f) tail 76 (length_record (kind_of f))

-- ---- the search

module _ (c : Check) (s : List ℕ) where
  abbrev pub frames_from : ℕ → List ℕ
  frames_from i = taken_from c s i 0 (8 * length s - i)

  -- nothing is taken where no frame stands any more
  none_stands : (i n : ℕ) → ((j : ℕ) → i ≤ j → stands c s j ≡ false) → taken_from c s i 0 n ≡ []
  unfolding taken_from
  none_stands i zero h = refl
  none_stands i (suc n) h = rw (h i (omega arith)) (none_stands (suc i) n (λ j l. h j (omega arith)))

  -- k starts at which none stands
  passed_over : (i k : ℕ) → ((j : ℕ) → j < k → stands c s (i + j) ≡ false) → frames_from i ≡ frames_from (i + k)
  passed_over i zero h = ap frames_from (sym (add-zero i))
  passed_over i (suc k) h =
      let e : i + k + 1 ≡ i + suc k = omega arith in
      passed_over i k (λ j l. h j (omega arith)) ∙ taken_later c s (i + k) (h k (omega arith)) ∙ ap frames_from e

  -- ---- a gap and the frame behind it, where the bits from bit i on are theirs and others

  module _ (i : ℕ) (gap : List Bit) (f : List ℕ) (g : Good c f) (others : List Bit) (inside : i ≤ 8 * length s) (bits : bits_from s i (8 * length s - i) ≡ gap ++ (bits_from f 0 585 ++ others)) where
    lengths : 8 * length s - i ≡ length gap + (585 + length others)
    lengths = sym (length_bits s i (8 * length s - i)) ∙ ap length bits ∙ length-append gap (bits_from f 0 585 ++ others) ∙ ap (λ (n : ℕ). length gap + n) (length-append (bits_from f 0 585) others ∙ ap (λ (n : ℕ). n + length others) (length_bits f 0 585))

    -- the bits behind the gap
    behind_gap : bits_from s (i + length gap) (8 * length s - i - length gap) ≡ bits_from f 0 585 ++ others
    behind_gap = sym (bits_behind s i (length gap) (8 * length s - i) (omega (arith, lengths))) ∙ ap (drop (length gap)) bits ∙ drop_at gap (bits_from f 0 585 ++ others) (length gap) refl

    frame_there : bits_from s (i + length gap) 585 ≡ bits_from f 0 585
    frame_there = sym (bits_take s (i + length gap) 585 (8 * length s - i - length gap) (omega (arith, lengths))) ∙ ap (take 585) behind_gap ∙ take_at (bits_from f 0 585) others 585 (length_bits f 0 585)

    captured : captured_at s (i + length gap) ≡ f
    captured = ap (packed 74) frame_there ∙ g.says

    taken : stands c s (i + length gap) ≡ true
    unfolding stands has_room
    taken = rw (le-leb (i + length gap + 585) (8 * length s) (omega (arith, lengths)), captured, g.sync_right, g.check_right) refl

    behind_frame : bits_from s (i + length gap + 585) (8 * length s - (i + length gap + 585)) ≡ others
    behind_frame =
        let n : 8 * length s - (i + length gap + 585) ≡ 8 * length s - i - length gap - 585 = omega (arith, lengths) in
        ap (bits_from s (i + length gap + 585)) n ∙ sym (bits_behind s (i + length gap) 585 (8 * length s - i - length gap) (omega (arith, lengths)))
        ∙ ap (drop 585) behind_gap ∙ drop_at (bits_from f 0 585) others 585 (length_bits f 0 585)

    -- no start in the gap
    in_gap : Quiet gap → (j : ℕ) → j < length gap → stands c s (i + j) ≡ false
    unfolding number_at
    in_gap q j h = no_sync_there c s (i + j) (λ z. q j h (sym same ∙ z))
      where
        -- the bits of the gap and of the sync, and others behind them
        parts : gap ++ (bits_from f 0 585 ++ others) ≡ (gap ++ sync) ++ (g.more ++ others)
        parts = ap (λ (xs : List Bit). gap ++ (xs ++ others)) g.begins ∙ ap (λ (xs : List Bit). gap ++ xs) (append_assoc sync g.more others) ∙ sym (append_assoc gap sync (g.more ++ others))

        long : length (gap ++ sync) ≡ length gap + 24
        long = length-append gap sync ∙ ap (λ (n : ℕ). length gap + n) length_sync

        same : high_first 24 (bits_from s (i + j) 24) ≡ high_first 24 (drop j (gap ++ sync))
        same =
            ap (high_first 24) (sym (bits_take s (i + j) 24 (8 * length s - i - j) (omega (arith, lengths)))) ∙ high_take 24 (bits_from s (i + j) (8 * length s - i - j))
            ∙ ap (high_first 24) (sym (bits_behind s i j (8 * length s - i) (omega (arith, lengths))) ∙ ap (drop j) (bits ∙ parts) ∙ drop-append-le j (gap ++ sync) (g.more ++ others) (omega (arith, long)))
            ∙ high_append 24 (drop j (gap ++ sync)) (g.more ++ others) (omega (arith, length-drop j (gap ++ sync), long))

    next_taken : Quiet gap → frames_from i ≡ (i + length gap) ∷ frames_from (i + length gap + 585)
    next_taken q = passed_over i (length gap) (in_gap q) ∙ taken_there c s (i + length gap) taken

  -- ---- all gaps and frames

  -- the records of the frames from bit i on, and the end record, are the file; there is one for each gap
  pub record Back (i : ℕ) (file : List ℕ) (gaps : List (List Bit)) : Type 0 where
    pub file_back : records_of_list s (list_of (frames_from i)) ++ end_record ≡ file
    pub count : length (frames_from i) ≡ length gaps

  record_front : (p : ℕ) (ps : List ℕ) → records_of_list s (list_of (p ∷ ps)) ≡ record_of_frame (captured_at s p) ++ records_of_list s (list_of ps)
  unfolding records_of_list list_of
  record_front p ps = let e : 8 * (p / 8) + p % 8 ≡ p = omega arith in rw e refl

  nothing_listed : (ps : List ℕ) → ps ≡ [] → records_of_list s (list_of ps) ++ end_record ≡ end_record
  unfolding records_of_list list_of
  nothing_listed ps e = rw e refl

  module _ (rest : List Bit) where
    pub back : (gaps : List (List Bit)) (file : List ℕ) (i : ℕ) → Records c file (length gaps) → AllQuiet gaps → i ≤ 8 * length s → bits_from s i (8 * length s - i) ≡ line_of file gaps ++ rest
        → ((j : ℕ) → i + length (line_of file gaps) ≤ j → stands c s j ≡ false) → Back i file gaps
    unfolding line_of
    back [] file i last q h e none-behind =
        let z = none_stands i (8 * length s - i) (λ j l. none-behind j (omega arith)) in
        record { file_back = nothing_listed _ z; count = ap length z }
    back (gap ∷ gaps) file i (before {f} {tail} good r) (and q qs) h e none-behind =
        let t : drop 76 file ≡ tail = record_behind c f good tail in
        let o : frame_at file 0 ≡ f = record_frame c f good (kind_of f) tail in
        let others : List Bit = line_of tail gaps ++ rest in
        let l : line_of file (gap ∷ gaps) ≡ gap ++ (bits_from f 0 585 ++ line_of tail gaps) = ap₂ (λ (x y : List ℕ). gap ++ (bits_from x 0 585 ++ line_of y gaps)) o t in
        let b : bits_from s i (8 * length s - i) ≡ gap ++ (bits_from f 0 585 ++ others) = e ∙ ap (λ (xs : List Bit). xs ++ rest) l ∙ append_assoc gap (bits_from f 0 585 ++ line_of tail gaps) rest ∙ ap (λ (xs : List Bit). gap ++ xs) (append_assoc (bits_from f 0 585) (line_of tail gaps) rest) in
        let n = lengths i gap f good others h b in
        let m : length (line_of file (gap ∷ gaps)) ≡ length gap + (585 + length (line_of tail gaps)) = ap length l ∙ length-append gap (bits_from f 0 585 ++ line_of tail gaps) ∙ ap (λ (k : ℕ). length gap + k) (length-append (bits_from f 0 585) (line_of tail gaps) ∙ ap (λ (k : ℕ). k + length (line_of tail gaps)) (length_bits f 0 585)) in
        let a = next_taken i gap f good others h b q in
        let d = back gaps tail (i + length gap + 585) r qs (omega arith) (behind_frame i gap f good others h b) (λ j k. none-behind j (omega arith)) in
        record {
          file_back =
              ap (λ (ps : List ℕ). records_of_list s (list_of ps) ++ end_record) a ∙ ap (λ (xs : List ℕ). xs ++ end_record) (record_front (i + length gap) (frames_from (i + length gap + 585)))
              ∙ append_assoc (record_of_frame (captured_at s (i + length gap))) (records_of_list s (list_of (frames_from (i + length gap + 585)))) end_record
              ∙ ap₂ (λ (x y : List ℕ). record_of_frame x ++ y) (captured i gap f good others h b) d.file_back;
          count = ap length a ∙ ap suc d.count;
        }
