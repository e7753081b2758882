-- What the end record comes to, test by test. Assumes nothing.
use mathlib.Core.Bool.{Bool, true, false, cond, ◌||◌, false≢true}
use mathlib.Core.Path.{◌≡◌, refl, sym, ◌∙◌}
use Prim.Native.Nat.{ℕ, ◌*◌, ◌≤◌}
use native.Mathlib.Decide.{dec_le}
use native.Mathlib.Omega.{arith}
use lib.Dec.{eqb, ltb}
use borrow.Author.Tests.{eq-eqb, ne_eqb, lt-ltb, le-ltb}
use Rattle.basics.proofs.Apart.{differ}
use Rattle.refusal.specs.Fault.{fault_of}
use Rattle.refusal.specs.declared.Reason.TheVariants.{PageEndsOpen, ColumnsNotWholePairs, TooManyLines}
use Rattle.frame.specs.declared.Record.{Record as FrameRecord}
use Rattle.bitmap.specs.Validity.{most_lines, lines_allowed}
use Rattle.bitmap.proofs.Taken.{lines_are, lines_pass}
use Rattle.chain.specs.Chain.{open_in}
use Rattle.reader_progress.specs.declared.Page.{Page}
use Rattle.reader_progress.specs.declared.FileProgress.{FileProgress}
use Rattle.reader_progress.specs.declared.RecordEffect.TheVariants.{On, Page as Ends}
use Rattle.reader_progress.specs.Progress.{page_ending, page_at_end_within, page_at_end}
use Rattle.std.specs.Prelude.{Ok, Err}

module _ (p : FileProgress) (k : ℕ) where
  pub ends_open : (open_in p.image.end ≡ 0 → ⊥) → Err (fault_of PageEndsOpen) ≡ page_at_end p k
  unfolding page_at_end_within
  ends_open o = rw (lt-ltb 0 (open_in p.image.end) (omega arith)) refl

  module _ (o : open_in p.image.end ≡ 0) where
    shut : ltb 0 (open_in p.image.end) ≡ false
    shut = le-ltb 0 (open_in p.image.end) (omega arith)

    pub no_pairs : (p.image.position.column ≡ 0 → ⊥) → Err (fault_of ColumnsNotWholePairs) ≡ page_at_end p k
    unfolding page_at_end_within
    no_pairs m = rw (shut, lt-ltb 0 p.image.position.column (omega arith)) refl

    module _ (m : p.image.position.column ≡ 0) where
      pub no_columns : p.image.position.pair ≡ 0 → Err (fault_of ColumnsNotWholePairs) ≡ page_at_end p k
      unfolding page_at_end_within
      no_columns z = rw (shut, le-ltb 0 p.image.position.column (omega arith), eq-eqb p.image.position.pair 0 z) refl

      module _ (z : p.image.position.pair ≡ 0 → ⊥) where
        as_most : (t : Bool) → ltb most_lines (2 * p.image.position.pair) ≡ t → cond t (Err (fault_of TooManyLines)) (Ok (Ends (page_ending p p.image.position k))) ≡ page_at_end p k
        unfolding page_at_end_within
        as_most t l = rw (shut, le-ltb 0 p.image.position.column (omega arith), ne_eqb p.image.position.pair 0 z, l) refl

        -- lines in pairs, and not none, are allowed unless they are too many
        pub too_many : lines_allowed (2 * p.image.position.pair) ≡ false → Err (fault_of TooManyLines) ≡ page_at_end p k
        too_many l = go (dec_le (2 * p.image.position.pair) most_lines)
          where
            go : Dec (2 * p.image.position.pair ≤ most_lines) → Err (fault_of TooManyLines) ≡ page_at_end p k
            go (yes h) = absurd (false≢true (sym l ∙ lines_pass (record { some = omega arith; even = omega arith; few = h })))
            go (no h) = as_most true (lt-ltb most_lines (2 * p.image.position.pair) (omega arith))

        pub whole_page : lines_allowed (2 * p.image.position.pair) ≡ true → Ok (Ends (page_ending p p.image.position k)) ≡ page_at_end p k
        whole_page l = as_most false (le-ltb most_lines (2 * p.image.position.pair) (lines_are (2 * p.image.position.pair) l).few)

-- the end record is no record after which the file goes on
pub ended_on : (p q : FileProgress) (r : FrameRecord) (k : ℕ) → page_at_end p k ≡ Ok (On r q) → ⊥
unfolding page_at_end_within
ended_on p q r k e = go _ (ltb 0 (open_in p.image.end)) (ltb 0 p.image.position.column || eqb p.image.position.pair 0) (ltb most_lines (2 * p.image.position.pair)) e
  where
    go : (x : Page) (t u v : Bool) → cond t (Err (fault_of PageEndsOpen)) (cond u (Err (fault_of ColumnsNotWholePairs)) (cond v (Err (fault_of TooManyLines)) (Ok (Ends x)))) ≡ Ok (On r q) → ⊥
    go x true u v e = differ cc
    go x false true v e = differ cc
    go x false false true e = differ cc
    go x false false false e = differ cc
