-- Demand 2: a page that is written reads back, octet for octet, whatever stands behind the file; under the setting that it was written by, and under
-- any that does not compare. A bitmap is that of its columns, and the columns are what the file says. Assumes nothing.
use mathlib.Core.Path.{◌≡◌, refl, sym, ap, ◌∙◌}
use mathlib.Core.Bool.{true, false}
use mathlib.Core.List.{List, ◌++◌}
use Prim.Native.Nat.{ℕ, ◌*◌, ◌/◌, ◌≤◌}
use native.Mathlib.Omega.{arith}
use lib.ListN.{length, drop}
use Rattle.basics.specs.Octets.{Octets}
use Rattle.basics.specs.Placed.{at_front}
use Rattle.refusal.specs.Reply.{gives, Outcome, valid}
use Rattle.refusal.proofs.Replies.{with_room, accepted, not_accepted}
use Rattle.register.specs.declared.Check.{Check}
use Rattle.register.specs.Setting.{allowed_check}
use Rattle.register.proofs.Setting.{allowed}
use Rattle.settings.specs.declared.Settings.{Settings}
use Rattle.frame.specs.Layout.{sent_frame}
use Rattle.frame.proofs.RoundTrip.{check_back, check_not_compared}
use Rattle.bitmap.specs.Form.{lines_of, columns_of}
use Rattle.bitmap.specs.Validity.{bitmap_validity}
use Rattle.bitmap.specs.Laws.{Legal}
use Rattle.bitmap.proofs.Taken.{legal, length_columns_of, bitmap_columns}
use Rattle.reader.specs.Call.{read_page_within, read_page}
use Rattle.writer_file.specs.File.{file_of}
use Rattle.writer.specs.Call.{most_columns, not_encodable, judge_page, if_fit, write_page_within, write_page}
use Rattle.writer.proofs.Judges.{Fits, fits, request_check, all_fine}
use Rattle.roundtrip.specs.Demand2.{file_for, page_for, Demand2Whole}
use Rattle.roundtrip.specs.Laws.{WrittenRead, ReadUncompared, FileSays}
use Rattle.roundtrip.proofs.FileReading.{Right, file_reading_lem}
use Rattle.std.specs.Prelude.{Result, Ok, Err}
use Rattle.refusal.specs.declared.Reason.{Reason}

-- ---- checks that are found right

right_own : (c : Check) → allowed_check c ≡ true → Right c c
right_own c a front n = check_back c front n (allowed c a)

right_uncompared : (r c : Check) → r.compare ≡ false → Right r c
right_uncompared r c e front n = check_not_compared r (sent_frame c front) e

-- ---- read

module _ (bm : List ℕ) (octets : Octets bm) (fine : bitmap_validity bm ≡ valid) (e : not_encodable (columns_of bm) ≡ false) where
  -- A bitmap that was written is read back.
  file_read : (r c : Check) → Right r c → allowed_check r ≡ true → (g : Settings) (most : ℕ) (rest o : List ℕ) → length bm ≤ length o →
      read_page r (file_of c g most (columns_of bm) ++ rest) o ≡ (gives (page_for (length (file_of c g most (columns_of bm))) most bm g), at_front bm o)
  unfolding read_page_within
  file_read r c right a g most rest o h =
      let l : Legal bm = legal bm fine in
      let v = l.lines.even in
      let pairs : ℕ = lines_of bm / 2 in
      let z : 2 * pairs ≡ lines_of bm = omega arith in
      let s = length_columns_of bm v in
      let x = file_reading_lem r c right a g most pairs (columns_of bm) rest (omega (arith, l.lines.some)) (omega (arith, l.lines.few)) (omega arith) e in
      rw (x, s, z, bitmap_columns bm octets fine) (sym (with_room _ _ bm o h))

-- ---- written and read

pub demand_2 : Demand2Whole
unfolding write_page_within
demand_2 c settings rate bm g w =
    let b = request_check c rate w.request in
    record {
      writes = λ o h. rw (← all_fine c settings rate bm w.request w.bitmap w.chosen w.last) (sym (with_room _ 0 (file_for c rate bm g) o h));
      reads = λ rest o h. file_read bm w.octets w.bitmap w.last c c (right_own c b) b g (most_columns rate) rest o h;
    }

-- A reading setting that does not compare accepts the same file and gives the same page.
pub read_uncompared : ReadUncompared
read_uncompared r c settings rate bm g a f w rest o h = file_read bm w.octets w.bitmap w.last r c (right_uncompared r c f) a g (most_columns rate) rest o h

-- The same on columns, for the setting that the file was written by.
pub file_says : FileSays
file_says c a g most pairs cs rest some few size e = file_reading_lem c c (right_own c a) a g most pairs cs rest some few size e

-- ---- the two calls

module _ (c : Check) (settings rate : ℕ) (bm o : List ℕ) (n : ℕ) (o' : List ℕ) where
  -- what is written is the file of a page that is fit
  record Wrote : Type 0 where
    fitting : Settings
    fit_is : Fits c settings rate bm fitting
    octets : n ≡ length (file_for c rate bm fitting)
    front : o' ≡ at_front (file_for c rate bm fitting) o

  wrote : write_page c settings rate bm o ≡ (gives n, o') → Wrote
  unfolding write_page_within
  wrote e = go (judge_page c settings rate bm) refl e
    where
      go : (j : Result Settings Reason) → judge_page c settings rate bm ≡ j → if_fit j c (most_columns rate) (columns_of bm) o ≡ (gives n, o') → Wrote
      go (Err reason) f e = absurd (not_accepted (ap (λ (x : Outcome ℕ ℕ). x.0) e))
      go (Ok g) f e =
          let a = accepted (length (file_for c rate bm g)) n 0 (file_for c rate bm g) o o' e in
          record { fitting = g; fit_is = fits c settings rate bm g f; octets = a.value_is; front = a.output }

pub written_read : WrittenRead
written_read c settings rate bm o n o' octets e q h =
    let w = wrote c settings rate bm o n o' e in
    let f = w.fit_is in
    let most : ℕ = most_columns rate in
    let file : List ℕ = file_for c rate bm w.fitting in
    let a = request_check c rate f.request in
    record {
      chosen = w.fitting;
      allowed_settings = f.settings_are;
      reads =
          ap (λ (s : List ℕ). read_page c s q) w.front
          ∙ file_read bm octets f.fine f.last c c (right_own c a) a w.fitting most (drop (length file) o) q h
          ∙ ap (λ (m : ℕ). (gives (page_for m most bm w.fitting), at_front bm q)) (sym w.octets);
    }
