-- A page that is written, and captured off the line, is found and read back whole: the records of its file are good ones, so that the records of what
-- is found are the file; and the file reads back by demand 2. Assumes nothing.
use mathlib.Core.Path.{◌≡◌, refl, sym, ap, subst, ◌∙◌}
use mathlib.Core.Bool.{Bool, true, false, ◌&&◌}
use mathlib.Core.List.{List, [], ◌∷◌, ◌++◌, append_assoc}
use Prim.Native.Nat.{ℕ, suc, ◌+◌, ◌*◌, ◌-◌, ◌≤◌}
use native.Mathlib.Nat.{sub-zero}
use native.Mathlib.Omega.{arith}
use lib.ListN.{length}
use lib.Seq.{take_all}
use borrow.Author.Tests.{le-leb}
use Rattle.octets.specs.Bits.{Bit, bits_from, packed}
use Rattle.basics.specs.Placed.{at_front}
use Rattle.register.specs.declared.Check.{Check}
use Rattle.register.specs.Setting.{allowed_check, check_under}
use Rattle.register.proofs.Setting.{Allowed, allowed}
use Rattle.refusal.specs.Reply.{gives, delivered}
use Rattle.refusal.proofs.Replies.{with_room}
use Rattle.settings.specs.declared.Settings.{Settings}
use Rattle.state.specs.declared.State.{State}
use Rattle.frame.specs.declared.FrameKind.{FrameKind}
use Rattle.frame.specs.Layout.{sync, header_bits, set_up_bits, data_front, set_up_front, check_bits, sent_frame, stored_frame, record_of, end_record}
use Rattle.frame.proofs.RoundTrip.{whole, length_whole, bits_there, sync_back, check_back, length_data, length_set_up_front, kind_told}
use Rattle.bitmap.specs.Form.{columns_of}
use Rattle.units.specs.Units.{bits_of_steps}
use Rattle.writer_fill.specs.Frames.{Frame, frames_of}
use Rattle.writer_file.specs.File.{header_for, filled_up, set_up_record, data_record, data_records, no_frame, file_of}
use Rattle.writer_file.proofs.Sizes.{length_file}
use Rattle.writer.specs.Call.{most_columns, request_allowed}
use Rattle.writer.proofs.Judges.{request_check}
use Rattle.roundtrip.specs.Sizes.{Every, none, and, Sized}
use Rattle.roundtrip.specs.Demand2.{file_for}
use Rattle.roundtrip.proofs.Frames.{length_filled}
use Rattle.roundtrip.proofs.Sizes.{frame_sizes}
use Rattle.roundtrip.proofs.Demand2.{demand_2}
use Rattle.capture.specs.Frames.{taken_from, frames_in}
use Rattle.capture.specs.Find.{list_of, tells_frames, find_frames}
use Rattle.capture.specs.Extract.{record_of_frame, records_of_list, file_of_list, records_of_frames}
use Rattle.capture.proofs.Found.{length_list}
use Rattle.capture.proofs.Extracts.{found_within}
use Rattle.capture_roundtrip.specs.Laws.{CapturedPage}
use Rattle.capture_roundtrip.proofs.OnLine.{Good, Records, last, before, back}

-- ---- the records of a file that is written

module _ (c : Check) (a : Allowed c) where
  good : (xs : List Bit) → length (sync ++ xs) ≡ 573 → Good c (sent_frame c (sync ++ xs))
  unfolding sent_frame
  good xs e =
      let front : List Bit = sync ++ xs in
      let check : List Bit = check_bits c.order (check_under c front) in
      let b : bits_from (sent_frame c front) 0 585 ≡ whole c front = bits_there c front 0 585 e (omega arith) ∙ take_all 585 (whole c front) (omega (arith, length_whole c front e)) in
      record {
        more = xs ++ check;
        begins = b ∙ append_assoc sync xs check;
        says = ap (packed 74) b;
        sync_right = sync_back c xs e;
        check_right = check_back c front e a;
      }

  set_up_is : (g : Settings) → record_of_frame (sent_frame c (set_up_front g)) ≡ set_up_record c g
  unfolding stored_frame
  set_up_is g = ap (λ (k : FrameKind). record_of k (stored_frame c (set_up_front g))) ((kind_told c).0 g)

  data_is : (i : ℕ) (f : Frame) → length (bits_of_steps f.steps) ≤ 508 → record_of_frame (sent_frame c (data_front (header_for i f) (filled_up (bits_of_steps f.steps)))) ≡ data_record c i f
  unfolding stored_frame
  data_is i f h = ap (λ (k : FrameKind). record_of k (stored_frame c (data_front (header_for i f) (filled_up (bits_of_steps f.steps))))) ((kind_told c).1 (header_for i f) (filled_up (bits_of_steps f.steps)) (length_filled (bits_of_steps f.steps) (omega arith)))

  data_before : (i : ℕ) (f : Frame) (tail : List ℕ) (n : ℕ) → length (bits_of_steps f.steps) ≤ 508 → Records c tail n → Records c (data_record c i f ++ tail) (suc n)
  data_before i f tail n h r =
      let l = length_data (header_for i f) (filled_up (bits_of_steps f.steps)) (length_filled (bits_of_steps f.steps) (omega arith)) in
      subst (λ (x : List ℕ). Records c (x ++ tail) (suc n)) (data_is i f h) (before (good (header_bits (header_for i f) ++ filled_up (bits_of_steps f.steps)) l) r)

  data_records_lem : (i : ℕ) (fs : List Frame) → Every Sized fs → Records c (data_records c i fs ++ end_record) (length fs)
  unfolding data_records
  data_records_lem i [] none = last
  data_records_lem i (f ∷ fs) (and z zs) =
      subst (λ (x : List ℕ). Records c x (suc (length fs))) (sym (append_assoc (data_record c i f) (data_records c (suc i) fs) end_record)) (data_before i f (data_records c (suc i) fs ++ end_record) (length fs) z.few (data_records_lem (suc i) fs zs))

  file_records : (g : Settings) (most : ℕ) (cs : List State) → Records c (file_of c g most cs) (2 + length (frames_of most cs))
  unfolding file_of data_records bits_of_steps
  file_records g most cs =
      let fs : List Frame = frames_of most cs in
      let r = data_before 0 no_frame (data_records c 1 fs ++ end_record) (length fs) (omega arith) (data_records_lem 1 fs (frame_sizes most cs)) in
      let t = subst (λ (x : List ℕ). Records c x (suc (length fs))) (sym (append_assoc (data_record c 0 no_frame) (data_records c 1 fs) end_record)) r in
      let u : Records c (set_up_record c g ++ (data_records c 0 (no_frame ∷ fs) ++ end_record)) (suc (suc (length fs))) = subst (λ (x : List ℕ). Records c (x ++ (data_records c 0 (no_frame ∷ fs) ++ end_record)) (suc (suc (length fs)))) (set_up_is g) (before (good (set_up_bits g) (length_set_up_front g)) t) in
      let n : suc (suc (length fs)) ≡ 2 + length fs = omega arith in
      subst (Records c _) n u

-- ---- the law

compares : (c : Check) (rate : ℕ) → request_allowed c rate ≡ true → tells_frames c ≡ true
unfolding request_allowed tells_frames
compares c rate e = go (allowed_check c) c.compare _ e
  where
    go : (a b t : Bool) → a && (b && t) ≡ true → a && b ≡ true
    go true true t e = refl
    go true false t e = e
    go false b t e = e

listed : (c : Check) (s : List ℕ) (n : ℕ) (list : List ℕ) → tells_frames c ≡ true → length (frames_in c s) ≡ n → 2 * n ≤ length list → find_frames c s list ≡ (gives n, at_front (list_of (frames_in c s)) list)
unfolding find_frames delivered
listed c s n list e f h = rw (e, le-leb (length (list_of (frames_in c s))) (length list) (omega (arith, length_list (frames_in c s)))) (ap (λ (m : ℕ). (gives m, at_front (list_of (frames_in c s)) list)) f)

extracted : (c : Check) (s file o : List ℕ) → records_of_list s (list_of (frames_in c s)) ++ end_record ≡ file → length file ≤ length o → records_of_frames s (list_of (frames_in c s)) o ≡ (gives (length file), at_front file o)
unfolding records_of_frames file_of_list
extracted c s file o e h = rw (found_within c s, e) (sym (with_room (length file) 0 file o h))

pub captured_page : CapturedPage
unfolding frames_in
captured_page c settings rate bm g w s gaps rest k =
    let file : List ℕ = file_for c rate bm g in
    let a = request_check c rate w.request in
    let n : length gaps ≡ 2 + length (frames_of (most_columns rate) (columns_of bm)) = omega (arith, k.all_frames, length_file c g (most_columns rate) (columns_of bm)) in
    let r = subst (Records c file) (sym n) (file_records c (allowed c a) g (most_columns rate) (columns_of bm)) in
    let b = back c s rest gaps file 0 r k.quiet (omega arith) (ap (bits_from s 0) (sub-zero (8 * length s)) ∙ k.bits) (λ j l. k.nothing_behind j (omega arith)) in
    let f : taken_from c s 0 0 (8 * length s - 0) ≡ frames_in c s = ap (taken_from c s 0 0) (sub-zero (8 * length s)) in
    let count : length (frames_in c s) ≡ length gaps = ap length (sym f) ∙ b.count in
    let file_is : records_of_list s (list_of (frames_in c s)) ++ end_record ≡ file = ap (λ (ps : List ℕ). records_of_list s (list_of ps) ++ end_record) (sym f) ∙ b.file_back in
    record {
      finds = λ list h. listed c s (length gaps) list (compares c rate w.request) count h;
      extracts = λ o h. extracted c s file o file_is h;
      reads = (demand_2 c settings rate bm g w).reads;
    }
