-- What the calls on a bitmap answer, by the judging of their input. Assumes nothing.
use mathlib.Core.Path.{◌≡◌, refl}
use mathlib.Core.List.{List}
use Prim.Native.Nat.{ℕ, ◌<◌, ◌≤◌}
use lib.IntN.{ℤ}
use native.Mathlib.Omega.{arith}
use lib.ListN.{length}
use Rattle.basics.specs.Placed.{at_front}
use Rattle.refusal.specs.declared.Reason.{Reason}
use Rattle.refusal.specs.Number.{number_of}
use Rattle.refusal.specs.Reply.{gives, refuses, SmallPlace, delivered, valid}
use Rattle.refusal.proofs.Replies.{with_room, no_room, delivered_place, valid_place}
use Rattle.bitmap.specs.Form.{rows_of}
use Rattle.bitmap.specs.Validity.{bitmap_validity}
use Rattle.words.specs.Words.{page_words}
use Rattle.words.specs.Calls.{words_of_bitmap_within, words_of_bitmap}
use Rattle.words.specs.Lines.{some_lines, words_of_lines_within, words_of_lines}
use Rattle.std.specs.Prelude.{Err}

pub invalid_words : (bm : List ℕ) (o : List ℤ) {reason : Reason} → bitmap_validity bm ≡ Err reason → (refuses (number_of reason) 0, o) ≡ words_of_bitmap bm o
unfolding words_of_bitmap_within
invalid_words bm o e = rw e refl

pub short_words : (bm : List ℕ) (o : List ℤ) → bitmap_validity bm ≡ valid → length o < length (page_words (rows_of bm)) → (refuses 16 0, o) ≡ words_of_bitmap bm o
unfolding words_of_bitmap_within
short_words bm o e h = rw e (no_room _ 0 (page_words (rows_of bm)) o h)

pub whole_words : (bm : List ℕ) (o : List ℤ) → bitmap_validity bm ≡ valid → length (page_words (rows_of bm)) ≤ length o →
    (gives (length (page_words (rows_of bm))), at_front (page_words (rows_of bm)) o) ≡ words_of_bitmap bm o
unfolding words_of_bitmap_within
whole_words bm o e h = rw e (with_room _ 0 (page_words (rows_of bm)) o h)

-- every refusal falls at record 0
pub words_place : (bm : List ℕ) (o : List ℤ) → SmallPlace (words_of_bitmap bm o).0
unfolding words_of_bitmap_within
words_place bm o = valid_place (bitmap_validity bm) (delivered (length (page_words (rows_of bm))) 0 (page_words (rows_of bm)) o) o (delivered_place (length (page_words (rows_of bm))) 0 (page_words (rows_of bm)) o (omega arith))

-- ---- some lines

module _ (bm : List ℕ) (from n : ℕ) (o : List ℤ) where
  pub invalid_lines : {reason : Reason} → bitmap_validity bm ≡ Err reason → (refuses (number_of reason) 0, o) ≡ words_of_lines bm from n o
  unfolding words_of_lines_within
  invalid_lines e = rw e refl

  pub short_lines : bitmap_validity bm ≡ valid → length o < length (some_lines bm from n) → (refuses 16 0, o) ≡ words_of_lines bm from n o
  unfolding words_of_lines_within
  short_lines e h = rw e (no_room _ 0 (some_lines bm from n) o h)

  pub whole_lines : bitmap_validity bm ≡ valid → length (some_lines bm from n) ≤ length o → (gives (length (some_lines bm from n)), at_front (some_lines bm from n) o) ≡ words_of_lines bm from n o
  unfolding words_of_lines_within
  whole_lines e h = rw e (with_room _ 0 (some_lines bm from n) o h)
