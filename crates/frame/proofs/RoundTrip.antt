-- What is taken apart from a frame that was put together is what it was put together from; and the padding is not looked at.
-- The bits up to 61 are known one by one, so that what stands at a place there is found by computing. Assumes nothing.
use mathlib.Core.Path.{◌≡◌, refl, sym, ap, ◌∙◌}
use mathlib.Core.Bool.{Bool, true, false, cond}
use mathlib.Core.List.{List, ◌++◌}
use Prim.Native.Nat.{ℕ, ◌+◌, ◌*◌, ◌^◌, ◌<◌, ◌≤◌}
use native.Mathlib.Nat.{mod-eq_of_lt}
use native.Mathlib.Omega.{arith}
use lib.Dec.{eqb, lit≤, lit<}
use lib.ListN.{length, drop, take, length-append}
use lib.Seq.{take_at, take_all, drop_at}
use borrow.Author.Tests.{eq-eqb}
use Rattle.octets.specs.Bits.{Bit, field_bits, number_bits, number_at, field_at, value, high_first, bits_from, packed}
use Rattle.turning.specs.Turned.{turned_from}
use Rattle.octets.proofs.Fields.{value_field, high_number, bits_part}
use Rattle.octets.proofs.Packed.{bits_packed, length_packed, octet_packed}
use Rattle.turning.proofs.Turned.{turned_back}
use Rattle.register.specs.declared.BitOrder.{BitOrder}
use Rattle.register.specs.declared.BitOrder.TheVariants.{LowFirst, HighFirst}
use Rattle.register.specs.declared.Check.{Check}
use Rattle.register.specs.Setting.{check_under, frame_check}
use Rattle.register.proofs.Setting.{Allowed}
use Rattle.register.proofs.Steps.{check_lt}
use Rattle.state.specs.Pels.{pels_of, state_of}
use Rattle.state.proofs.States.{state_pels, pels_lt}
use Rattle.frame.specs.declared.FrameKind.TheVariants.{SetUp as SetUpFrame, Data as DataFrame}
use Rattle.frame.specs.declared.Header.{Header}
use Rattle.frame.specs.declared.Record.TheVariants.{Data}
use Rattle.settings.specs.declared.Mode.{Mode}
use Rattle.settings.specs.declared.Mode.TheVariants.{Quality, Detail, Express}
use Rattle.settings.specs.declared.Paper.{Paper}
use Rattle.settings.specs.declared.Paper.TheVariants.{Eleven, FiveAndHalf, Fourteen}
use Rattle.settings.specs.declared.Settings.{Settings}
use Rattle.settings.specs.Settings.{settings_of, settings_number, mode_number, paper_number}
use Rattle.frame.specs.Layout.{sync_agrees, check_sent, check_agrees, header_of, data_bits, kind_of, set_up_of, parsed, settings_parsed}
use Rattle.frame.specs.Layout.{sync_number, sync, header_bits, set_up_bits, data_front, set_up_front, check_bits, sent_frame, stored_frame}
use Rattle.frame.specs.Laws.{Fits, DataTaken, DataBack, SetUpTaken, PaddingUnread, ScopeOrder, KindTold}
use Rattle.frame.proofs.Frames.{both_agree, sequence_right, length_check, length_header, length_set_up, length_sync}
use Rattle.std.specs.Prelude.{Some, Ok}

-- ---- turned back

pub stored_back : (c : Check) (front : List Bit) → turned_from (stored_frame c front) 0 74 ≡ sent_frame c front
unfolding stored_frame sent_frame
stored_back c front = turned_back _ 74 (length_packed 74 _) (octet_packed 74 _)

-- ---- what stands at a place of a frame with bits 0 to 572 and the check

abbrev pub whole : Check → List Bit → List Bit
whole c front = front ++ check_bits c.order (check_under c front)

pub length_whole : (c : Check) (front : List Bit) → length front ≡ 573 → length (whole c front) ≡ 585
length_whole c front e = length-append front (check_bits c.order (check_under c front)) ∙ omega (arith, length_check c.order (check_under c front))

pub bits_there : (c : Check) (front : List Bit) (i n : ℕ) → length front ≡ 573 → i + n ≤ 585 → bits_from (sent_frame c front) i n ≡ take n (drop i (whole c front))
unfolding sent_frame
bits_there c front i n e h = let l = length_whole c front e in bits_packed 74 i n (whole c front) (omega arith) (omega arith)

number_there : (c : Check) (front : List Bit) (i n v : ℕ) → length front ≡ 573 → i + n ≤ 585 → take n (drop i (whole c front)) ≡ number_bits n v → v < 2 ^ n → number_at (sent_frame c front) i n ≡ v
unfolding number_at
number_there c front i n v e h t k = ap (high_first n) (bits_there c front i n e h ∙ t) ∙ high_number n v ∙ mod-eq_of_lt k

field_there : (c : Check) (front : List Bit) (i n v : ℕ) → length front ≡ 573 → i + n ≤ 585 → take n (drop i (whole c front)) ≡ field_bits n v → v < 2 ^ n → field_at (sent_frame c front) i n ≡ v
unfolding field_at
field_there c front i n v e h t k = ap value (bits_there c front i n e h ∙ t) ∙ value_field n v k

-- ---- sync and check

pub sync_back : (c : Check) (xs : List Bit) → length (sync ++ xs) ≡ 573 → sync_agrees (sent_frame c (sync ++ xs)) ≡ true
unfolding sync_agrees number_bits
sync_back c xs e = eq-eqb _ _ (number_there c (sync ++ xs) 0 24 sync_number e (lit≤ tt) refl (lit< tt))

-- the check of the frame's bits, and the one sent
check_is : (c : Check) (front : List Bit) → length front ≡ 573 → frame_check c (sent_frame c front) ≡ check_under c front
unfolding frame_check
check_is c front e = ap (check_under c) (bits_there c front 0 573 e (lit≤ tt) ∙ take_at front (check_bits c.order (check_under c front)) 573 e)

check_sent_lem : (c : Check) (front : List Bit) → length front ≡ 573 → Allowed c → check_sent c.order (sent_frame c front) ≡ check_under c front
unfolding check_under check_sent check_bits
check_sent_lem c front e a = by_order c.order there
  where
    v : ℕ
    v = check_under c front

    fits : v < 2 ^ 12
    fits = check_lt c.generator c.start (drop c.first front) a.generator a.start

    there : take 12 (drop 573 (whole c front)) ≡ check_bits c.order v
    there = rw (drop_at front (check_bits c.order v) 573 e) (take_all 12 (check_bits c.order v) (rw (length_check c.order v) (lit≤ tt)))

    by_order : (o : BitOrder) → take 12 (drop 573 (whole c front)) ≡ check_bits o v → check_sent o (sent_frame c front) ≡ v
    by_order LowFirst t = field_there c front 573 12 v e (lit≤ tt) t fits
    by_order HighFirst t = number_there c front 573 12 v e (lit≤ tt) t fits

-- The check is that of the frame's bits for the setting that it was written by.
pub check_back : (c : Check) (front : List Bit) → length front ≡ 573 → Allowed c → check_agrees c (sent_frame c front) ≡ true
unfolding check_agrees
check_back c front e a = go c.compare (eq-eqb _ _ (check_is c front e ∙ sym (check_sent_lem c front e a)))
  where
    go : (b : Bool) {t : Bool} → t ≡ true → cond b t true ≡ true
    go true h = h
    go false h = refl

-- A setting that does not compare takes any check.
pub check_not_compared : (c : Check) (s : List ℕ) → c.compare ≡ false → check_agrees c s ≡ true
unfolding check_agrees
check_not_compared c s e = ap (λ (b : Bool). cond b (eqb (frame_check c s) (check_sent c.order s)) true) e

-- ---- a data frame

pub length_data : (h : Header) (ds : List Bit) → length ds ≡ 512 → length (data_front h ds) ≡ 573
length_data h ds e = length-append sync (header_bits h ++ ds) ∙ omega (arith, length_sync, length-append (header_bits h) ds, length_header h)

pub header_back : (c : Check) (h : Header) (ds : List Bit) → length ds ≡ 512 → Fits h → header_of (sent_frame c (data_front h ds)) ≡ h
unfolding header_of header_bits number_bits field_bits
header_back c h ds e f =
    let n = length_data h ds e in
    let front : List Bit = data_front h ds in
    λ i. record {
      sequence = number_there c front 24 2 h.sequence n (lit≤ tt) refl f.sequence i;
      count = field_there c front 31 10 h.count n (lit≤ tt) refl f.count i;
      x = field_there c front 41 12 h.x n (lit≤ tt) refl f.x i;
      black = field_there c front 53 3 h.black n (lit≤ tt) refl f.black i;
      white = field_there c front 56 3 h.white n (lit≤ tt) refl f.white i;
      state = (ap state_of (number_there c front 59 2 (pels_of h.state) n (lit≤ tt) refl (pels_lt h.state)) ∙ state_pels h.state) i;
    }

pub data_taken : DataTaken
unfolding parsed
data_taken r c h ds e f k = sym (both_agree r _ _ (sync_back c (header_bits h ++ ds) (length_data h ds e)) k) ∙ ap (λ (h : Header). Ok (Data h)) (header_back c h ds e f)

pub data_back : DataBack
unfolding data_bits header_bits number_bits field_bits
data_back c h ds e = bits_there c (data_front h ds) 61 512 (length_data h ds e) (lit≤ tt) ∙ take_at ds (check_bits c.order (check_under c (data_front h ds))) 512 e

-- ---- a set-up frame

settings_back : (m : Mode) (p : Paper) → settings_of (4 * mode_number m + paper_number p) ≡ Some (record { mode = m; paper = p })
unfolding settings_of
settings_back Quality Eleven = refl
settings_back Quality FiveAndHalf = refl
settings_back Quality Fourteen = refl
settings_back Detail Eleven = refl
settings_back Detail FiveAndHalf = refl
settings_back Detail Fourteen = refl
settings_back Express Eleven = refl
settings_back Express FiveAndHalf = refl
settings_back Express Fourteen = refl

settings_lt : (m : Mode) (p : Paper) → 4 * mode_number m + paper_number p < 32
settings_lt Quality Eleven = lit< tt
settings_lt Quality FiveAndHalf = lit< tt
settings_lt Quality Fourteen = lit< tt
settings_lt Detail Eleven = lit< tt
settings_lt Detail FiveAndHalf = lit< tt
settings_lt Detail Fourteen = lit< tt
settings_lt Express Eleven = lit< tt
settings_lt Express FiveAndHalf = lit< tt
settings_lt Express Fourteen = lit< tt

pub length_set_up_front : (x : Settings) → length (set_up_front x) ≡ 573
length_set_up_front x = length-append sync (set_up_bits x) ∙ omega (arith, length_sync, length_set_up x)

pub set_up_taken : SetUpTaken
unfolding parsed set_up_of set_up_bits number_bits
set_up_taken r c x k =
    let n = length_set_up_front x in
    let q : number_at (sent_frame c (set_up_front x)) 24 2 ≡ 0 = number_there c (set_up_front x) 24 2 0 n (lit≤ tt) refl (lit< tt) in
    let v : number_at (sent_frame c (set_up_front x)) 61 5 ≡ settings_number x = number_there c (set_up_front x) 61 5 (settings_number x) n (lit≤ tt) refl (settings_lt x.mode x.paper) in
    sym (both_agree r _ _ (sync_back c (set_up_bits x) n) k) ∙ sym (sequence_right _ _ q) ∙ ap settings_parsed (ap settings_of v ∙ settings_back x.mode x.paper)

-- ---- padding

-- the check sent is among the first 585 bits, in either order
sent_among : (o : BitOrder) (s t : List ℕ) → bits_from s 573 12 ≡ bits_from t 573 12 → check_sent o s ≡ check_sent o t
unfolding check_sent number_at field_at
sent_among LowFirst s t e = ap value e
sent_among HighFirst s t e = ap (high_first 12) e

pub padding_unread : PaddingUnread
unfolding parsed set_up_of data_bits sync_agrees check_agrees header_of number_at field_at frame_check
padding_unread c s t e =
    let p : (i n : ℕ) → i + n ≤ 585 → bits_from s i n ≡ bits_from t i n = λ i n h. sym (bits_part s i n 585 h) ∙ ap (λ (bs : List Bit). take n (drop i bs)) e ∙ bits_part t i n 585 h in (
      rw (p 0 24 (lit≤ tt), p 0 573 (lit≤ tt), sent_among c.order s t (p 573 12 (lit≤ tt)), p 24 2 (lit≤ tt), p 61 5 (lit≤ tt)),
      rw (p 0 24 (lit≤ tt), p 0 573 (lit≤ tt), sent_among c.order s t (p 573 12 (lit≤ tt)), p 24 2 (lit≤ tt), p 31 10 (lit≤ tt), p 41 12 (lit≤ tt), p 53 3 (lit≤ tt), p 56 3 (lit≤ tt), p 59 2 (lit≤ tt)),
      p 61 512 (lit≤ tt),
    )

-- ---- the scope paper's order

pub scope_order : ScopeOrder
unfolding check_agrees check_sent sent_frame check_bits
scope_order c e = (by_sent, by_bits)
  where
    by_sent : (s : List ℕ) → check_agrees c s ≡ cond c.compare (eqb (frame_check c s) (field_at s 573 12)) true
    by_sent s = rw e refl

    by_bits : (front : List Bit) → sent_frame c front ≡ packed 74 (front ++ field_bits 12 (check_under c front))
    by_bits front = rw e refl

-- ---- the kind that a header says

pub kind_told : KindTold
unfolding kind_of header_bits set_up_bits number_bits
kind_told c = (set_up, λ h ds e. data_kind h ds (length_data h ds e))
  where
    set_up : (x : Settings) → kind_of (sent_frame c (set_up_front x)) ≡ SetUpFrame
    set_up x = rw (number_there c (set_up_front x) 26 5 0b00101 (length_set_up_front x) (lit≤ tt) refl (lit< tt), number_there c (set_up_front x) 31 30 0x3FFFFFFF (length_set_up_front x) (lit≤ tt) refl (lit< tt)) refl

    data_kind : (h : Header) (ds : List Bit) → length (data_front h ds) ≡ 573 → kind_of (sent_frame c (data_front h ds)) ≡ DataFrame
    data_kind h ds n = rw (number_there c (data_front h ds) 26 5 0b10000 n (lit≤ tt) refl (lit< tt)) refl
