-- Laws of frames that are put together: each part behind the one before, and then the check. Assumes nothing.
use mathlib.Core.Path.{◌≡◌, refl, sym, ap, ◌∙◌}
use mathlib.Core.Bool.{true, false, cond}
use mathlib.Core.List.{List, [], ◌++◌, append_assoc}
use Prim.Native.Nat.{ℕ, zero, suc, ◌*◌, ◌≤◌}
use native.Mathlib.Omega.{arith}
use lib.Dec.{eqb, lit≤}
use lib.ListN.{length, replicate, length-append}
use lib.Seq.{take_all}
use borrow.Author.Tests.{eq-eqb, ne_eqb}
use Rattle.octets.specs.Bits.{Bit, field_bits, number_bits, number_at, packed, put_bits}
use Rattle.turning.specs.Turned.{turned_from}
use Rattle.octets.proofs.Fields.{length_field, length_number}
use Rattle.octets.proofs.Packed.{put_packed, packed_none, bits_packed}
use Rattle.register.specs.declared.BitOrder.{BitOrder}
use Rattle.register.specs.declared.BitOrder.TheVariants.{LowFirst, HighFirst}
use Rattle.register.specs.declared.Check.{Check}
use Rattle.register.specs.Setting.{check_under, frame_check}
use Rattle.refusal.specs.declared.Reason.TheVariants.{SyncDiffers, CheckDiffers, SequenceWrong}
use Rattle.state.specs.Pels.{pels_of}
use Rattle.frame.specs.declared.Header.{Header}
use Rattle.settings.specs.declared.Settings.{Settings}
use Rattle.settings.specs.Settings.{settings_number}
use Rattle.frame.specs.Layout.{sync_agrees, check_agrees, if_intact, sync, header_bits, alternating, set_up_bits, data_front, set_up_front, check_bits, closed_frame, sent_frame, stored_frame}
use Rattle.std.specs.Prelude.{Result, Err}
use Rattle.frame.specs.declared.Record.{Record}
use Rattle.refusal.specs.declared.Reason.{Reason}

-- ---- sync and check are judged, in this order

pub no_sync : (c : Check) (s : List ℕ) (t : Result Record Reason) → sync_agrees s ≡ false → Err SyncDiffers ≡ if_intact c s t
no_sync c s t e = rw e

pub no_check : (c : Check) (s : List ℕ) (t : Result Record Reason) → sync_agrees s ≡ true → check_agrees c s ≡ false → Err CheckDiffers ≡ if_intact c s t
no_check c s t e f = rw (e, f)

pub both_agree : (c : Check) (s : List ℕ) (t : Result Record Reason) → sync_agrees s ≡ true → check_agrees c s ≡ true → t ≡ if_intact c s t
both_agree c s t e f = rw (e, f)

-- the sequence of a set-up frame
pub sequence_wrong : (s : List ℕ) (t : Result Record Reason) → (number_at s 24 2 ≡ 0 → ⊥) → Err SequenceWrong ≡ cond (eqb (number_at s 24 2) 0) t (Err SequenceWrong)
sequence_wrong s t h = rw (ne_eqb _ _ h)

pub sequence_right : (s : List ℕ) (t : Result Record Reason) → number_at s 24 2 ≡ 0 → t ≡ cond (eqb (number_at s 24 2) 0) t (Err SequenceWrong)
sequence_right s t e = rw (eq-eqb _ _ e)

-- ---- put together, one part after another

pub header_puts : (s : List ℕ) (h : Header) →
    put_bits (put_bits (put_bits (put_bits (put_bits (put_bits (put_bits s 24 (number_bits 2 h.sequence)) 26 (number_bits 5 0b10000)) 31 (field_bits 10 h.count)) 41 (field_bits 12 h.x))
    53 (field_bits 3 h.black)) 56 (field_bits 3 h.white)) 59 (number_bits 2 (pels_of h.state))
    ≡ put_bits s 24 (header_bits h)
unfolding put_bits header_bits number_bits field_bits
header_puts s h = refl

pub set_up_puts : (s : List ℕ) (x : Settings) →
    put_bits (put_bits (put_bits (put_bits (put_bits (put_bits s 24 (number_bits 7 0b0000101)) 31 (field_bits 30 0x3FFF_FFFF)) 61 (number_bits 5 (settings_number x)))
    66 (number_bits 7 0b1000000)) 73 (field_bits 20 0)) 93 (alternating 240)
    ≡ put_bits s 24 (set_up_bits x)
unfolding put_bits set_up_bits number_bits field_bits
set_up_puts s x = refl

pub length_header : (h : Header) → length (header_bits h) ≡ 37
unfolding header_bits number_bits field_bits
length_header h = refl

pub length_alternating : (n : ℕ) → length (alternating n) ≡ 2 * n
unfolding alternating
length_alternating zero = refl
length_alternating (suc n) = omega (arith, length_alternating n)

pub length_set_up : (x : Settings) → length (set_up_bits x) ≡ 549
unfolding set_up_bits number_bits
length_set_up x = omega (arith, length_alternating 240)

pub length_sync : length sync ≡ 24
unfolding number_bits
length_sync = refl

pub length_check : (o : BitOrder) (v : ℕ) → length (check_bits o v) ≡ 12
unfolding check_bits
length_check LowFirst v = length_field 12 v
length_check HighFirst v = length_number 12 v

-- bits 0 to 572, and then the check
frame_check_lem : (c : Check) (bs : List Bit) → length bs ≡ 573 → frame_check c (packed 74 bs) ≡ check_under c bs
unfolding frame_check
frame_check_lem c bs e = ap (check_under c) (bits_packed 74 0 573 bs (omega arith) (omega arith) ∙ take_all 573 bs (omega arith))

pub closed_stored : (c : Check) (bs : List Bit) → length bs ≡ 573 → closed_frame c (packed 74 bs) ≡ stored_frame c bs
unfolding closed_frame stored_frame sent_frame
closed_stored c bs e =
    let n = length_check c.order (check_under c bs) in
    ap (λ (s : List ℕ). turned_from s 0 74) (rw (frame_check_lem c bs e) (put_packed 74 573 bs (check_bits c.order (check_under c bs)) e (omega arith)))

-- sync, then the header or all else
sync_put : (xs : List Bit) → length xs ≤ 549 → put_bits (put_bits (replicate 74 0) 0 sync) 24 xs ≡ packed 74 (sync ++ xs)
unfolding number_bits
sync_put xs h =
    ap (λ (s : List ℕ). put_bits (put_bits s 0 sync) 24 xs) (sym (packed_none 74))
    ∙ ap (λ (s : List ℕ). put_bits s 24 xs) (put_packed 74 0 [] sync refl (lit≤ tt))
    ∙ put_packed 74 24 sync xs length_sync (omega arith)

pub set_up_closed : (c : Check) (x : Settings) → closed_frame c (put_bits (put_bits (replicate 74 0) 0 sync) 24 (set_up_bits x)) ≡ stored_frame c (set_up_front x)
set_up_closed c x =
    let n = length_set_up x in
    ap (closed_frame c) (sync_put (set_up_bits x) (omega arith)) ∙ closed_stored c (set_up_front x) (length-append sync (set_up_bits x) ∙ omega (arith, length_sync))

pub data_closed : (c : Check) (h : Header) (ds : List Bit) → length ds ≡ 512 →
    closed_frame c (put_bits (put_bits (put_bits (replicate 74 0) 0 sync) 24 (header_bits h)) 61 ds) ≡ stored_frame c (data_front h ds)
data_closed c h ds e =
    let n = length_header h in
    let m = length-append sync (header_bits h) in
    let k = length-append sync (header_bits h ++ ds) in
    let j = length-append (header_bits h) ds in
    ap (closed_frame c)
    (ap (λ (s : List ℕ). put_bits s 61 ds) (sync_put (header_bits h) (omega arith))
    ∙ put_packed 74 61 (sync ++ header_bits h) ds (omega (arith, length_sync)) (omega arith)
    ∙ ap (packed 74) (append_assoc sync (header_bits h) ds))
    ∙ closed_stored c (data_front h ds) (omega (arith, length_sync))
