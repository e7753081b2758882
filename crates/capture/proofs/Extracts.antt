-- The frames of a list as records, entry by entry, and how long they are. Assumes nothing.
use mathlib.Core.Path.{◌≡◌, refl, sym, ap, ◌∙◌}
use mathlib.Core.Bool.{Bool, true, false, ◌&&◌}
use mathlib.Core.List.{List, [], ◌∷◌, ◌++◌, append_assoc}
use Prim.Native.Nat.{ℕ, suc, ◌+◌, ◌*◌, ◌/◌, ◌%◌, ◌<◌, ◌≤◌}
use native.Mathlib.Omega.{arith}
use borrow.Author.Tests.{ltb-true, leb-true, lt-ltb, le-leb}
use lib.Dec.{ltb}
use lib.ListN.{length, get_or, drop, length-append, length-drop}
use lib.Seq.{drop-cons}
use Rattle.basics.specs.Placed.{at_front}
use Rattle.turning.specs.Turned.{turned_from}
use Rattle.turning.proofs.Turned.{length_turned}
use Rattle.register.proofs.Setting.{left, right}
use Rattle.refusal.specs.declared.Reason.TheVariants.{ListOutside}
use Rattle.refusal.specs.Number.{number_of}
use Rattle.refusal.specs.Reply.{gives, refuses}
use Rattle.refusal.proofs.Replies.{with_room, no_room}
use Rattle.frame.specs.declared.FrameKind.{FrameKind}
use Rattle.frame.specs.declared.FrameKind.TheVariants.{SetUp, Data}
use Rattle.frame.specs.Layout.{kind_of, record_of, end_record}
use Rattle.capture.specs.Frames.{captured_at, has_room, frames_in}
use Rattle.capture.specs.Find.{list_of}
use Rattle.capture.specs.Laws.{Among, first, later}
use Rattle.capture.specs.Extract.{all_within, record_of_frame, records_of_list, file_of_list, records_of_frames}
use Rattle.capture.specs.ExtractLaws.{RecordsInParts, RoomForRecords, FoundWithin}
use Rattle.capture.proofs.Found.{every_frame}

-- ---- one entry after the other

-- the octet and the bit of entry i
abbrev pub octet_of : List ℕ → ℕ → ℕ
octet_of list i = get_or list (2 * i) 0

abbrev pub bit_in_octet : List ℕ → ℕ → ℕ
bit_in_octet list i = get_or list (2 * i + 1) 0

entry_first : (list : List ℕ) (i : ℕ) → i < length list / 2 → drop (2 * i) list ≡ octet_of list i ∷ bit_in_octet list i ∷ drop (2 * (i + 1)) list
entry_first list i h =
    let e : suc (2 * i) ≡ 2 * i + 1 = omega arith in
    let f : suc (2 * i + 1) ≡ 2 * (i + 1) = omega arith in
    drop-cons list (2 * i) 0 (omega arith) ∙ rw (e, drop-cons list (2 * i + 1) 0 (omega arith), f) refl

-- behind the last whole entry is at most one number
few_left : (list : List ℕ) (i : ℕ) → length list / 2 ≤ i → length (drop (2 * i) list) ≤ 1
few_left list i h = simp length-drop (omega arith)

-- the records from entry i on, and the end record
abbrev pub file_from : List ℕ → List ℕ → ℕ → List ℕ
file_from s list i = records_of_list s (drop (2 * i) list) ++ end_record

pub file_all : (s list : List ℕ) → file_of_list s list ≡ file_from s list 0
unfolding file_of_list
file_all s list = refl

module _ (s list : List ℕ) (i : ℕ) where
  pub within_first : i < length list / 2 →
      all_within s (drop (2 * i) list) ≡ ((ltb (bit_in_octet list i) 8 && has_room s (8 * octet_of list i + bit_in_octet list i)) && all_within s (drop (2 * (i + 1)) list))
  unfolding all_within
  within_first h = rw (entry_first list i h) refl

  pub within_end : length list / 2 ≤ i → all_within s (drop (2 * i) list) ≡ true
  unfolding all_within
  within_end h = go (drop (2 * i) list) (few_left list i h)
    where
      go : (xs : List ℕ) → length xs ≤ 1 → all_within s xs ≡ true
      go [] l = refl
      go (o ∷ []) l = refl
      go (o ∷ b ∷ xs) l = absurd (omega arith)

  pub file_first : i < length list / 2 → file_from s list i ≡ record_of_frame (captured_at s (8 * octet_of list i + bit_in_octet list i)) ++ file_from s list (i + 1)
  unfolding records_of_list
  file_first h = rw (entry_first list i h) (append_assoc (record_of_frame (captured_at s (8 * octet_of list i + bit_in_octet list i))) (records_of_list s (drop (2 * (i + 1)) list)) end_record)

  pub file_end : length list / 2 ≤ i → file_from s list i ≡ end_record
  unfolding records_of_list
  file_end h = go (drop (2 * i) list) (few_left list i h)
    where
      go : (xs : List ℕ) → length xs ≤ 1 → records_of_list s xs ++ end_record ≡ end_record
      go [] l = refl
      go (o ∷ []) l = refl
      go (o ∷ b ∷ xs) l = absurd (omega arith)

-- the first of entries within, and those behind it
pub entry_within : (s : List ℕ) (o b : ℕ) (t : Bool) → ((ltb b 8 && has_room s (8 * o + b)) && t) ≡ true → (b < 8) × (o ≤ length s) × (t ≡ true)
unfolding has_room
entry_within s o b t e =
    let x : _ = left (ltb b 8 && has_room s (8 * o + b)) t e in
    let y : b < 8 = ltb-true b 8 (left (ltb b 8) (has_room s (8 * o + b)) x) in
    let z : 8 * o + b + 585 ≤ 8 * length s = leb-true (8 * o + b + 585) (8 * length s) (right (ltb b 8) (has_room s (8 * o + b)) x) in
    (y, omega arith, right (ltb b 8 && has_room s (8 * o + b)) t e)

-- ---- how long they are

pub length_record : (f : List ℕ) → length (record_of_frame f) ≡ 76
length_record f = go (kind_of f)
  where
    go : (k : FrameKind) → length (record_of k (turned_from f 0 74)) ≡ 76
    go SetUp = omega (arith, length_turned f 0 74)
    go Data = omega (arith, length_turned f 0 74)

length_records : (s list : List ℕ) → length (records_of_list s list) ≡ 76 * (length list / 2)
unfolding records_of_list
length_records s [] = omega arith
length_records s (o ∷ []) = omega arith
length_records s (o ∷ b ∷ rest) =
    length-append (record_of_frame (captured_at s (8 * o + b))) (records_of_list s rest)
    ∙ omega (arith, length_record (captured_at s (8 * o + b)), length_records s rest)

pub length_file : (s list : List ℕ) → length (file_of_list s list) ≡ 76 * (length list / 2) + 2
unfolding file_of_list
length_file s list = length-append (records_of_list s list) end_record ∙ omega (arith, length_records s list)

in_parts : (s xs ys : List ℕ) → length xs % 2 ≡ 0 → records_of_list s (xs ++ ys) ≡ records_of_list s xs ++ records_of_list s ys
unfolding records_of_list
in_parts s [] ys h = refl
in_parts s (o ∷ []) ys h = absurd (omega arith)
in_parts s (o ∷ b ∷ xs) ys h =
    let r : List ℕ = record_of_frame (captured_at s (8 * o + b)) in
    ap (λ (zs : List ℕ). r ++ zs) (in_parts s xs ys (omega arith)) ∙ sym (append_assoc r (records_of_list s xs) (records_of_list s ys))

pub records_in_parts : RecordsInParts
records_in_parts = (in_parts, length_records)

-- ---- what the call answers

module _ (s list o : List ℕ) where
  pub not_within : all_within s list ≡ false → (refuses (number_of ListOutside) 0, o) ≡ records_of_frames s list o
  unfolding records_of_frames
  not_within e = rw e refl

  pub no_room_within : all_within s list ≡ true → length o < 76 * (length list / 2) + 2 → (refuses 16 0, o) ≡ records_of_frames s list o
  unfolding records_of_frames
  no_room_within e h = rw e (no_room (length (file_of_list s list)) 0 (file_of_list s list) o (omega (arith, length_file s list)))

  pub room_within : all_within s list ≡ true → 76 * (length list / 2) + 2 ≤ length o → (gives (76 * (length list / 2) + 2), at_front (file_of_list s list) o) ≡ records_of_frames s list o
  unfolding records_of_frames
  room_within e h =
      rw (e, ← length_file s list) (with_room (length (file_of_list s list)) 0 (file_of_list s list) o (omega (arith, length_file s list)))

pub room_for_records : RoomForRecords
room_for_records s list o e h = sym (room_within s list o e h)

-- ---- what was found

-- places that have room each
within_listed : (s ps : List ℕ) → ((p : ℕ) → Among p ps → has_room s p ≡ true) → all_within s (list_of ps) ≡ true
unfolding all_within list_of
within_listed s [] h = refl
within_listed s (p ∷ ps) h =
    let e : 8 * (p / 8) + p % 8 ≡ p = omega arith in
    rw (lt-ltb (p % 8) 8 (omega arith), e, h p (first refl)) (within_listed s ps (λ q a. h q (later a)))

pub found_within : FoundWithin
unfolding has_room
found_within c s = let f = every_frame c s in within_listed s (frames_in c s) (λ p a. le-leb (p + 585) (8 * length s) (f.each_here p a).room)
