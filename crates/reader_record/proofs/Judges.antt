-- What a record comes to, by what is found in its place; and what a file that goes on has found. Assumes nothing.
use mathlib.Core.Bool.{Bool, true, false, cond, ◌||◌, true≢false}
use mathlib.Core.Path.{◌≡◌, refl, sym, ap, subst, ◌∙◌}
use mathlib.Core.List.{List}
use Prim.Native.Nat.{ℕ, ◌+◌, ◌-◌, ◌*◌, ◌≤◌}
use native.Mathlib.Omega.{arith}
use lib.Dec.{eqb, ltb}
use lib.ListN.{length, get_or}
use borrow.Author.Tests.{eq-eqb, ne_eqb, eqb-true, eqb-false, ltb-false}
use Rattle.octets.specs.Bits.{number_at}
use Rattle.basics.proofs.Apart.{differ}
use Rattle.refusal.specs.declared.Reason.{Reason}
use Rattle.refusal.specs.declared.Fault.{Fault}
use Rattle.refusal.specs.Fault.{fault_of, GoesWith}
use Rattle.refusal.specs.Number.{number_of}
use Rattle.refusal.specs.declared.Reason.TheVariants.{RecordIncomplete, RecordUnknown, RecordOutOfPlace, SyncDiffers, CheckDiffers, SettingsNotAllowed, SequenceWrong, PageEndsOpen, ColumnsNotWholePairs, TooManyLines}
use Rattle.register.specs.declared.Check.{Check}
use Rattle.frame.specs.declared.FrameKind.TheVariants.{SetUp as SetUpFrame, Data as DataFrame}
use Rattle.frame.specs.declared.Header.{Header}
use Rattle.frame.specs.declared.Record.{Record as FrameRecord}
use Rattle.frame.specs.declared.Record.TheVariants.{SetUp, Data}
use Rattle.settings.specs.declared.Settings.{Settings}
use Rattle.settings.specs.Settings.{settings_of}
use Rattle.frame.specs.Layout.{header_of, sync_agrees, check_agrees, settings_parsed, set_up_of, parsed}
use Rattle.bitmap.specs.Validity.{most_lines}
use Rattle.reader_progress.specs.declared.Page.{Page}
use Rattle.chain.specs.declared.NextImage.{NextImage}
use Rattle.reader_progress.specs.declared.FileProgress.{FileProgress}
use Rattle.reader_progress.specs.declared.RecordEffect.{RecordEffect}
use Rattle.reader_progress.specs.declared.RecordEffect.TheVariants.{On, Page as Ends}
use Rattle.records.specs.declared.Kind.{Kind}
use Rattle.records.specs.declared.Kind.TheVariants.{Frame, End as EndDue}
use Rattle.records.specs.Records.{pair_of, due_at, sent_at, in_place}
use Rattle.chain.specs.Chain.{open_in, chained}
use Rattle.chain.specs.Laws.{FrameFault, no_bit}
use Rattle.chain.proofs.Linked.{frame_refused, fault_bit}
use Rattle.records.proofs.Order.{due_room}
use Rattle.reader_progress.specs.Progress.{with_set_up, with_data, page_ending, page_at_end_within}
use Rattle.reader_progress.proofs.Ended.{ended_on}
use Rattle.reader_record.specs.Record.{if_chained, data_next, taken_next, kind_within, due_within, next_within, next}
use Rattle.std.specs.Prelude.{Option, Some, None, Result, Ok, Err}

-- ---- a data frame

module _ (p : FileProgress) (h : Header) (s : List ℕ) where
  pub wrong_sequence : (h.sequence ≡ p.sequence → ⊥) → Err (fault_of SequenceWrong) ≡ data_next p h s
  unfolding data_next
  wrong_sequence e = rw (ne_eqb h.sequence p.sequence e) refl

  pub no_image : h.sequence ≡ p.sequence → h.count ≡ 0 → Ok (On (Data h) (with_data p p.image)) ≡ data_next p h s
  unfolding data_next
  no_image e z = rw (eq-eqb h.sequence p.sequence e, eq-eqb h.count 0 z) refl

  pub image_frame : {x : Result NextImage Fault} → h.sequence ≡ p.sequence → (h.count ≡ 0 → ⊥) → x ≡ chained p.image h s → if_chained p h x ≡ data_next p h s
  unfolding data_next
  image_frame e z f = rw (eq-eqb h.sequence p.sequence e, ne_eqb h.count 0 z, f) refl

-- ---- a record

module _ (c : Check) (file : List ℕ) (k : ℕ) (p : FileProgress) where
  pub not_due : {reason : Reason} → due_at file (76 * k) ≡ Err reason → Err (fault_of reason) ≡ next c file k p
  unfolding next_within
  not_due e = rw e refl

  pub out_of_place : {kind : Kind} → due_at file (76 * k) ≡ Ok kind → in_place kind p.stage ≡ false → Err (fault_of RecordOutOfPlace) ≡ next c file k p
  unfolding next_within
  out_of_place e f = rw (e, f) refl

  pub in_its_place : {kind : Kind} → due_at file (76 * k) ≡ Ok kind → in_place kind p.stage ≡ true → kind_within most_lines c file k p kind ≡ next c file k p
  unfolding next_within
  in_its_place e f = rw (e, f) refl

-- ---- a file that goes on

-- what record k was, where the file goes on
pub data RecordAccepted (file : List ℕ) (k : ℕ) (p : FileProgress) : FrameRecord → FileProgress → Type 0 where
  set_up : due_at file (76 * k) ≡ Ok (Frame SetUpFrame) → (g : Settings) → RecordAccepted file k p (SetUp g) (with_set_up p g)
  no_bits : due_at file (76 * k) ≡ Ok (Frame DataFrame) → (header_of (sent_at file k)).count ≡ 0 → RecordAccepted file k p (Data (header_of (sent_at file k))) (with_data p p.image)
  frame : due_at file (76 * k) ≡ Ok (Frame DataFrame) → ((header_of (sent_at file k)).count ≡ 0 → ⊥) → (g : NextImage) →
      chained p.image (header_of (sent_at file k)) (sent_at file k) ≡ Ok g → RecordAccepted file k p (Data (header_of (sent_at file k))) (with_data p g.image)

module _ (c : Check) (file : List ℕ) (k : ℕ) (p : FileProgress) (r : FrameRecord) (q : FileProgress) where
  same : {r₁ : FrameRecord} {q₁ : FileProgress} → ◌≡◌ {A = Result RecordEffect Fault} (Ok (On r₁ q₁)) (Ok (On r q)) → RecordAccepted file k p r₁ q₁ → RecordAccepted file k p r q
  same {r₁} {q₁} e w = let y : r₁ ≡ r = cc in let z : q₁ ≡ q = cc in rw (sym y, sym z) w

  went_set_up : (s : List ℕ) → due_at file (76 * k) ≡ Ok (Frame SetUpFrame) → taken_next p (parsed c SetUpFrame s) s ≡ Ok (On r q) → RecordAccepted file k p r q
  unfolding parsed set_up_of
  went_set_up s d e = go (sync_agrees s) (check_agrees c s) (eqb (number_at s 24 2) 0) (settings_of (number_at s 61 5)) e
    where
      go : (t u v : Bool) (x : Option Settings) → taken_next p (cond t (cond u (cond v (settings_parsed x) (Err SequenceWrong)) (Err CheckDiffers)) (Err SyncDiffers)) s ≡ Ok (On r q) → RecordAccepted file k p r q
      go true true true (Some g) e = same e (set_up d g)
      go true true true None e = differ cc
      go true true false x e = differ cc
      go true false v x e = differ cc
      go false u v x e = differ cc

  went_data : due_at file (76 * k) ≡ Ok (Frame DataFrame) → taken_next p (parsed c DataFrame (sent_at file k)) (sent_at file k) ≡ Ok (On r q) → RecordAccepted file k p r q
  unfolding parsed data_next
  went_data d e = sent (sync_agrees (sent_at file k)) (check_agrees c (sent_at file k)) e
    where
      image : (x : Result NextImage Fault) → ((header_of (sent_at file k)).count ≡ 0 → ⊥) → chained p.image (header_of (sent_at file k)) (sent_at file k) ≡ x → if_chained p (header_of (sent_at file k)) x ≡ Ok (On r q) → RecordAccepted file k p r q
      image (Err f) z y e = differ cc
      image (Ok g) z y e = same e (frame d z g y)

      counted : (t u : Bool) → eqb (header_of (sent_at file k)).count 0 ≡ u →
          cond t (cond u (Ok (On (Data (header_of (sent_at file k))) (with_data p p.image))) (if_chained p (header_of (sent_at file k)) (chained p.image (header_of (sent_at file k)) (sent_at file k)))) (Err (fault_of SequenceWrong)) ≡ Ok (On r q) → RecordAccepted file k p r q
      counted true true z e = same e (no_bits d (eqb-true (header_of (sent_at file k)).count 0 z))
      counted true false z e = image (chained p.image (header_of (sent_at file k)) (sent_at file k)) (eqb-false (header_of (sent_at file k)).count 0 z) refl e
      counted false u z e = differ cc

      sent : (t u : Bool) → taken_next p (cond t (cond u (Ok (Data (header_of (sent_at file k)))) (Err CheckDiffers)) (Err SyncDiffers)) (sent_at file k) ≡ Ok (On r q) → RecordAccepted file k p r q
      sent true true e = counted (eqb (header_of (sent_at file k)).sequence p.sequence) (eqb (header_of (sent_at file k)).count 0) refl e
      sent true false e = differ cc
      sent false u e = differ cc

  -- every record after which the file goes on is one of these
  pub went : next c file k p ≡ Ok (On r q) → RecordAccepted file k p r q
  unfolding next_within
  went e = due (due_at file (76 * k)) refl e
    where
      placed : (x : Result RecordEffect Fault) (t : Bool) → cond t x (Err (fault_of RecordOutOfPlace)) ≡ Ok (On r q) → x ≡ Ok (On r q)
      placed x true e = e
      placed x false e = differ cc

      due : (d : Result Kind Reason) → due_at file (76 * k) ≡ d → due_within most_lines c file k p d ≡ Ok (On r q) → RecordAccepted file k p r q
      due (Err reason) d e = differ cc
      due (Ok (Frame SetUpFrame)) d e = went_set_up (sent_at file k) d (placed _ (in_place (Frame SetUpFrame) p.stage) e)
      due (Ok EndDue) d e = absurd (ended_on p q r k (placed _ (in_place EndDue p.stage) e))
      due (Ok (Frame DataFrame)) d e = went_data d (placed _ (in_place (Frame DataFrame) p.stage) e)

-- ---- a file that is refused

-- no record is refused by 11 because of what is due, or of its frame as it is taken apart
due_reason : (file : List ℕ) (at : ℕ) (reason : Reason) → due_at file at ≡ Err reason → number_of reason ≡ 11 → ⊥
unfolding due_at pair_of
due_reason file at reason e n =
    go (ltb (length file) (at + 2)) (eqb (get_or file at 0) 2) (eqb (get_or file (at + 1) 0) 58) (eqb (get_or file at 0) 76) (eqb (get_or file (at + 1) 0) 56) (eqb (get_or file (at + 1) 0) 57) (ltb (length file - at) 76) e
  where
    not_11 : (r : Reason) → (number_of r ≡ 11 → ⊥) → ◌≡◌ {A = Result Kind Reason} (Err r) (Err reason) → ⊥
    not_11 r d e = let z : r ≡ reason = cc in d (ap number_of z ∙ n)

    go : (a b c d x y z : Bool) →
        cond a (Err RecordIncomplete)
        (cond b (cond c (Ok EndDue) (Err RecordUnknown))
        (cond d (cond x (cond z (Err RecordIncomplete) (Ok (Frame SetUpFrame))) (cond y (cond z (Err RecordIncomplete) (Ok (Frame DataFrame))) (Err RecordUnknown))) (Err RecordUnknown))) ≡ Err reason → ⊥
    go true b c d x y z e = not_11 RecordIncomplete (λ k. omega arith) e
    go false true true d x y z e = differ cc
    go false true false d x y z e = not_11 RecordUnknown (λ k. omega arith) e
    go false false c true true y true e = not_11 RecordIncomplete (λ k. omega arith) e
    go false false c true true y false e = differ cc
    go false false c true false true true e = not_11 RecordIncomplete (λ k. omega arith) e
    go false false c true false true false e = differ cc
    go false false c true false false z e = not_11 RecordUnknown (λ k. omega arith) e
    go false false c false x y z e = not_11 RecordUnknown (λ k. omega arith) e

-- what record k is refused for: a number with no bit, or 11 with the bit at which its data part stops
pub record_fault : (most : ℕ) (c : Check) (file : List ℕ) (k : ℕ) (p : FileProgress) (f : Fault) → next_within most c file k p ≡ Err f → FrameFault p.image (header_of (sent_at file k)) (sent_at file k) f
unfolding next_within page_at_end_within data_next parsed set_up_of
record_fault most c file k p f e = due (due_at file (76 * k)) refl e
  where
    h : Header
    h = header_of (sent_at file k)

    plainly : (reason : Reason) → (number_of reason ≡ 11 → ⊥) → ◌≡◌ {A = Result RecordEffect Fault} (Err (fault_of reason)) (Err f) → FrameFault p.image h (sent_at file k) f
    plainly reason d e = let z : fault_of reason ≡ f = cc in subst (λ (g : Fault). FrameFault p.image h (sent_at file k) g) z (no_bit reason d)

    image : (x : Result NextImage Fault) → chained p.image h (sent_at file k) ≡ x → if_chained p h x ≡ Err f → FrameFault p.image h (sent_at file k) f
    image (Ok g) y e = differ cc
    image (Err g) y e = let z : g ≡ f = cc in frame_refused p.image h (sent_at file k) f (y ∙ ap Err z)

    counted : (t u : Bool) → cond t (cond u (Ok (On (Data h) (with_data p p.image))) (if_chained p h (chained p.image h (sent_at file k)))) (Err (fault_of SequenceWrong)) ≡ Err f → FrameFault p.image h (sent_at file k) f
    counted true true e = differ cc
    counted true false e = image (chained p.image h (sent_at file k)) refl e
    counted false u e = plainly SequenceWrong (λ n. omega arith) e

    set_up_taken : (t u v : Bool) (x : Option Settings) → taken_next p (cond t (cond u (cond v (settings_parsed x) (Err SequenceWrong)) (Err CheckDiffers)) (Err SyncDiffers)) (sent_at file k) ≡ Err f → FrameFault p.image h (sent_at file k) f
    set_up_taken true true true (Some g) e = differ cc
    set_up_taken true true true None e = plainly SettingsNotAllowed (λ n. omega arith) e
    set_up_taken true true false x e = plainly SequenceWrong (λ n. omega arith) e
    set_up_taken true false v x e = plainly CheckDiffers (λ n. omega arith) e
    set_up_taken false u v x e = plainly SyncDiffers (λ n. omega arith) e

    data_taken : (t u : Bool) → taken_next p (cond t (cond u (Ok (Data h)) (Err CheckDiffers)) (Err SyncDiffers)) (sent_at file k) ≡ Err f → FrameFault p.image h (sent_at file k) f
    data_taken true true e = counted (eqb h.sequence p.sequence) (eqb h.count 0) e
    data_taken true false e = plainly CheckDiffers (λ n. omega arith) e
    data_taken false u e = plainly SyncDiffers (λ n. omega arith) e

    ends : (a b d : Bool) → cond a (Err (fault_of PageEndsOpen)) (cond b (Err (fault_of ColumnsNotWholePairs)) (cond d (Err (fault_of TooManyLines)) (Ok (Ends (page_ending p p.image.position k))))) ≡ Err f → FrameFault p.image h (sent_at file k) f
    ends true b d e = plainly PageEndsOpen (λ n. omega arith) e
    ends false true d e = plainly ColumnsNotWholePairs (λ n. omega arith) e
    ends false false true e = plainly TooManyLines (λ n. omega arith) e
    ends false false false e = differ cc

    of_kind : (kind : Kind) → kind_within most c file k p kind ≡ Err f → FrameFault p.image h (sent_at file k) f
    of_kind (Frame SetUpFrame) e = set_up_taken (sync_agrees (sent_at file k)) (check_agrees c (sent_at file k)) (eqb (number_at (sent_at file k) 24 2) 0) (settings_of (number_at (sent_at file k) 61 5)) e
    of_kind (Frame DataFrame) e = data_taken (sync_agrees (sent_at file k)) (check_agrees c (sent_at file k)) e
    of_kind EndDue e = ends (ltb 0 (open_in p.image.end)) (ltb 0 p.image.position.column || eqb p.image.position.pair 0) (ltb most (2 * p.image.position.pair)) e

    placed : (kind : Kind) (t : Bool) → cond t (kind_within most c file k p kind) (Err (fault_of RecordOutOfPlace)) ≡ Err f → FrameFault p.image h (sent_at file k) f
    placed kind true e = of_kind kind e
    placed kind false e = plainly RecordOutOfPlace (λ n. omega arith) e

    due : (d : Result Kind Reason) → due_at file (76 * k) ≡ d → due_within most c file k p d ≡ Err f → FrameFault p.image h (sent_at file k) f
    due (Err reason) r e = plainly reason (due_reason file (76 * k) reason r) e
    due (Ok kind) r e = placed kind (in_place kind p.stage) e

-- so with 11 goes a bit of its data part, and with any other number 0
pub stopped_bit : (most : ℕ) (c : Check) (file : List ℕ) (k : ℕ) (p : FileProgress) (f : Fault) → next_within most c file k p ≡ Err f → GoesWith f.bit (number_of f.reason)
stopped_bit most c file k p f e = fault_bit (record_fault most c file k p f e)

-- ---- a file that has ended

-- what the end record, record k, has found, where a page may have so many lines
pub record Finished (most : ℕ) (file : List ℕ) (p : FileProgress) (k : ℕ) (t : Page) : Type 0 where
  pub inside : 76 * k + 2 ≤ length file
  pub is : t ≡ page_ending p p.image.position k
  pub whole : p.image.position.column ≡ 0
  pub few : 2 * p.image.position.pair ≤ most

-- no frame ends the page
pub taken_ends : (p : FileProgress) (x : Result FrameRecord Reason) (s : List ℕ) (t : Page) → taken_next p x s ≡ Ok (Ends t) → ⊥
unfolding data_next
taken_ends p (Err reason) s t e = differ cc
taken_ends p (Ok (SetUp g)) s t e = differ cc
taken_ends p (Ok (Data h)) s t e = go (eqb h.sequence p.sequence) (eqb h.count 0) (chained p.image h s) e
  where
    go : (u v : Bool) (x : Result NextImage Fault) → cond u (cond v (Ok (On (Data h) (with_data p p.image))) (if_chained p h x)) (Err (fault_of SequenceWrong)) ≡ Ok (Ends t) → ⊥
    go true true x e = differ cc
    go true false (Ok g) e = differ cc
    go true false (Err f) e = differ cc
    go false v x e = differ cc

pub finished : (most : ℕ) (c : Check) (file : List ℕ) (k : ℕ) (p : FileProgress) (t : Page) → next_within most c file k p ≡ Ok (Ends t) → Finished most file p k t
unfolding next_within page_at_end_within
finished most c file k p t e = due (due_at file (76 * k)) refl e
  where
    placed : (x : Result RecordEffect Fault) (u : Bool) → cond u x (Err (fault_of RecordOutOfPlace)) ≡ Ok (Ends t) → x ≡ Ok (Ends t)
    placed x true e = e
    placed x false e = differ cc

    whole : (u v : Bool) → ltb 0 p.image.position.column ≡ u → u || v ≡ false → p.image.position.column ≡ 0
    whole true v x y = absurd (true≢false y)
    whole false v x y = let h = ltb-false 0 p.image.position.column x in omega arith

    ends : due_at file (76 * k) ≡ Ok EndDue → (a b d : Bool) → ltb 0 p.image.position.column || eqb p.image.position.pair 0 ≡ b → ltb most (2 * p.image.position.pair) ≡ d →
        cond a (Err (fault_of PageEndsOpen)) (cond b (Err (fault_of ColumnsNotWholePairs)) (cond d (Err (fault_of TooManyLines)) (Ok (Ends (page_ending p p.image.position k))))) ≡ Ok (Ends t) → Finished most file p k t
    ends r true b d x y e = differ cc
    ends r false true d x y e = differ cc
    ends r false false true x y e = differ cc
    ends r false false false x y e = record {
      inside = due_room file (76 * k) EndDue r;
      is = cc;
      whole = whole (ltb 0 p.image.position.column) (eqb p.image.position.pair 0) refl x;
      few = ltb-false most (2 * p.image.position.pair) y;
    }

    due : (d : Result Kind Reason) → due_at file (76 * k) ≡ d → due_within most c file k p d ≡ Ok (Ends t) → Finished most file p k t
    due (Err reason) r e = differ cc
    due (Ok (Frame kind)) r e = absurd (taken_ends p (parsed c kind (sent_at file k)) (sent_at file k) t (placed _ (in_place (Frame kind) p.stage) e))
    due (Ok EndDue) r e =
        ends r (ltb 0 (open_in p.image.end)) (ltb 0 p.image.position.column || eqb p.image.position.pair 0) (ltb most (2 * p.image.position.pair)) refl refl (placed _ (in_place EndDue p.stage) e)
