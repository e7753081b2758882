-- What is read of the beginning of a file is read of all of it, unless the beginning stops too early: each record that is whole in the beginning comes to
-- the same, and lays the same columns. Assumes nothing.
use mathlib.Core.Path.{◌≡◌, refl, sym, ap, ◌∙◌}
use mathlib.Core.Bool.{Bool, true, false, cond}
use mathlib.Core.List.{List, [], ◌++◌, append-nil}
use Prim.Native.Nat.{ℕ, zero, suc, ◌+◌, ◌*◌, ◌-◌, ◌≤◌}
use native.Mathlib.Decide.{dec_le}
use native.Mathlib.Omega.{arith}
use lib.ListN.{length, take, length-append}
use lib.Seq.{take_all, take-append-le, take-append-add}
use Rattle.refusal.specs.Fault.{fault_of}
use Rattle.refusal.specs.declared.Reason.TheVariants.{RecordIncomplete}
use Rattle.register.specs.declared.Check.{Check}
use Rattle.register.specs.Setting.{allowed_check}
use Rattle.state.specs.declared.State.{State}
use Rattle.frame.specs.declared.FrameKind.TheVariants.{SetUp, Data}
use Rattle.records.specs.declared.Kind.TheVariants.{Frame, End as EndDue}
use Rattle.records.specs.Records.{due_at}
use Rattle.records.proofs.Order.{due_room}
use Rattle.records.proofs.Beginning.{due_beginning, sent_beginning}
use Rattle.chain.specs.declared.Image.{Image}
use Rattle.reader_progress.specs.declared.FileProgress.{FileProgress}
use Rattle.reader_progress.specs.declared.RecordEffect.{RecordEffect}
use Rattle.reader_progress.specs.declared.RecordEffect.TheVariants.{On, Page as Ends}
use Rattle.reader_progress.specs.Progress.{first_progress}
use Rattle.reader_record.specs.Record.{due_within, next_within, due_columns, columns_at}
use Rattle.reader_judge.specs.File.{FileReading, refused, laying, after_record, reading_from_within, reading_by_within, most_octets, file_reading_within}
use Rattle.reader_judge.specs.Laws.{BeginningStands}
use Rattle.std.specs.Prelude.{Result, Ok, Err}
use Rattle.records.specs.declared.Kind.{Kind}
use Rattle.refusal.specs.declared.Reason.{Reason}
use Rattle.refusal.specs.declared.Fault.{Fault}

module _ (file rest : List ℕ) where
  -- ---- a record

  module _ (most : ℕ) (c : Check) (k : ℕ) (p : FileProgress) where
    -- what is due in all of the file comes to the same there
    next_due : (d : Result Kind Reason) → due_at file (76 * k) ≡ d → due_within most c (file ++ rest) k p d ≡ due_within most c file k p d
    next_due (Err reason) e = refl
    next_due (Ok EndDue) e = refl
    next_due (Ok (Frame kind)) e = rw (sent_beginning file rest k (due_room file (76 * k) (Frame kind) e)) refl

    next_beginning : (due_at file (76 * k) ≡ Err RecordIncomplete → ⊥) → next_within most c (file ++ rest) k p ≡ next_within most c file k p
    unfolding next_within
    next_beginning not-cut = rw (due_beginning file rest (76 * k) not-cut) (next_due (due_at file (76 * k)) refl)

    cut_next : due_at file (76 * k) ≡ Err RecordIncomplete → next_within most c file k p ≡ Err (fault_of RecordIncomplete)
    unfolding next_within
    cut_next e = rw e refl

  columns_due : (k : ℕ) (im : Image) (d : Result Kind Reason) → due_at file (76 * k) ≡ d → due_columns (file ++ rest) k im d ≡ due_columns file k im d
  columns_due k im (Err reason) e = refl
  columns_due k im (Ok EndDue) e = refl
  columns_due k im (Ok (Frame SetUp)) e = refl
  columns_due k im (Ok (Frame Data)) e = rw (sent_beginning file rest k (due_room file (76 * k) (Frame Data) e)) refl

  columns_beginning : (k : ℕ) (im : Image) → (due_at file (76 * k) ≡ Err RecordIncomplete → ⊥) → columns_at (file ++ rest) k im ≡ columns_at file k im
  unfolding columns_at
  columns_beginning k im not-cut = rw (due_beginning file rest (76 * k) not-cut) (columns_due k im (due_at file (76 * k)) refl)

  -- ---- from a record on

  module _ (most : ℕ) (c : Check) where
    from_record : (n m k : ℕ) (p : FileProgress) → n ≤ m → ((j : ℕ) → reading_from_within most c file n k p ≡ refused 1 j 0 → ⊥) →
        reading_from_within most c (file ++ rest) m k p ≡ reading_from_within most c file n k p
    unfolding reading_from_within
    from_record zero m k p h not-cut = absurd (not-cut k refl)
    from_record (suc n) zero k p h not-cut = absurd (omega arith)
    from_record (suc n) (suc m) k p h not-cut =
        rw (next_beginning most c k p whole, columns_beginning k p.image whole) (go (next_within most c file k p) not-cut (λ q. from_record n m (suc k) q (omega arith)))
      where
        whole : due_at file (76 * k) ≡ Err RecordIncomplete → ⊥
        whole e = not-cut k (rw (cut_next most c k p e) refl)

        laid : (cs : List State) (s : FileReading) (j : ℕ) → s ≡ refused 1 j 0 → laying cs s ≡ refused 1 j 0
        laid cs s j e = rw e refl

        go : (x : Result RecordEffect Fault) → ((j : ℕ) → after_record x k (columns_at file k p.image) (λ q. reading_from_within most c file n (suc k) q) ≡ refused 1 j 0 → ⊥) →
            ((q : FileProgress) → ((j : ℕ) → reading_from_within most c file n (suc k) q ≡ refused 1 j 0 → ⊥) → reading_from_within most c (file ++ rest) m (suc k) q ≡ reading_from_within most c file n (suc k) q) →
            after_record x k (columns_at file k p.image) (λ q. reading_from_within most c (file ++ rest) m (suc k) q) ≡
            after_record x k (columns_at file k p.image) (λ q. reading_from_within most c file n (suc k) q)
        go (Err reason) f ih = refl
        go (Ok (Ends t)) f ih = refl
        go (Ok (On r q)) f ih = ap (laying (columns_at file k p.image)) (ih q (λ j e. f j (laid (columns_at file k p.image) (reading_from_within most c file n (suc k) q) j e)))

-- ---- the octets that are read

taken_beginning : (m : ℕ) (file rest : List ℕ) → (more : List ℕ) × (take m (file ++ rest) ≡ take m file ++ more)
taken_beginning m file rest = go (dec_le m (length file))
  where
    go : Dec (m ≤ length file) → (more : List ℕ) × (take m (file ++ rest) ≡ take m file ++ more)
    go (yes h) = ([], take-append-le m file rest h ∙ sym (append-nil (take m file)))
    go (no h) =
        let e : m ≡ length file + (m - length file) = omega arith in
        (take (m - length file) rest, ap (λ (n : ℕ). take n (file ++ rest)) e ∙ take-append-add file rest (m - length file) ∙ ap (λ (xs : List ℕ). xs ++ take (m - length file) rest) (sym (take_all m file (omega arith))))

-- of any limit of lines
pub beginning_within : (most : ℕ) (c : Check) (file rest : List ℕ) → ((k : ℕ) → file_reading_within most c file ≡ refused 1 k 0 → ⊥) → file_reading_within most c (file ++ rest) ≡ file_reading_within most c file
unfolding file_reading_within reading_by_within
beginning_within most c file rest not-cut = let t = taken_beginning most_octets file rest in rw t.1 (go t.0 (allowed_check c) not-cut)
  where
    front : List ℕ
    front = take most_octets file

    go : (more : List ℕ) (b : Bool) → ((k : ℕ) → cond b (reading_from_within most c front (length front) 0 first_progress) (refused 20 0 0) ≡ refused 1 k 0 → ⊥) →
        cond b (reading_from_within most c (front ++ more) (length (front ++ more)) 0 first_progress) (refused 20 0 0) ≡ cond b (reading_from_within most c front (length front) 0 first_progress) (refused 20 0 0)
    go more true f = from_record front more most c (length front) (length (front ++ more)) 0 first_progress (omega (arith, length-append front more)) f
    go more false f = refl

pub beginning_stands : BeginningStands
beginning_stands c file rest not-cut = beginning_within _ c file rest not-cut
