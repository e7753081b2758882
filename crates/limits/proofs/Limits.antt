-- What is answered within two limits, of which one is no larger than the other. Assumes nothing.
use mathlib.Core.Path.{◌≡◌, refl, sym, ap, ◌∙◌}
use mathlib.Core.Bool.{Bool, true, false, cond}
use mathlib.Core.List.{List}
use Prim.Native.Nat.{ℕ, ◌+◌, ◌*◌, ◌%◌, ◌<◌, ◌≤◌}
use native.Mathlib.Decide.{dec_le}
use native.Mathlib.Omega.{arith}
use lib.Dec.{leb, eqb, ltb}
use lib.IntN.{ℤ}
use lib.ListN.{length, get_or}
use borrow.Author.Tests.{le-leb, lt-leb}
use Rattle.basics.proofs.Apart.{differ}
use Rattle.refusal.specs.declared.Reason.TheVariants.{BitmapSizeNotAllowed}
use Rattle.refusal.specs.Reply.{Reply, gives, refuses, Outcome}
use Rattle.register.specs.declared.Check.{Check}
use Rattle.bitmap.specs.Form.{lines_of}
use Rattle.bitmap.specs.Validity.{lines_within, size_within, validity_within}
use Rattle.words.specs.Words.{WordLines, broken, page, lines_of_words}
use Rattle.words.specs.Lines.{words_of_lines_within}
use Rattle.words.specs.Calls.{words_of_bitmap_within, drawn_within, bitmap_of_words_within}
use Rattle.pbm.specs.declared.PbmFault.TheVariants.{LinesNotAllowed}
use Rattle.pbm.specs.Header.{HeaderContent, notP4, unreadable, says, pbm_header_of}
use Rattle.pbm.specs.Read.{taken_from_within, taken_by_within, bitmap_of_pbm_within}
use Rattle.printing.specs.Saved.{saved_within}
use Rattle.pbm.specs.Written.{pbm_of}
use Rattle.png.specs.Written.{png_of}
use Rattle.writer.specs.Call.{request_allowed, judge_page_within, write_page_within}
use Rattle.refusal.proofs.Replies.{not_accepted}
use Rattle.reader_judge.specs.File.{file_reading_within}
use Rattle.limits.proofs.Reading.{judged_alike, judged_above, read_alike, read_above, judged_says, read_says}
use Rattle.limits.specs.Limits.{lines_in_words, lines_in_header, lines_in_file, Limits, AllKept, AllNewRefused}
use Rattle.std.specs.Prelude.{Result, Ok, Err}
use Rattle.pbm.specs.declared.PbmFault.{PbmFault}

-- ---- by the number of lines

module _ {A : Type 0} (k m : ℕ) {x y z : A} (alike : k ≤ m → x ≡ y) (above : m < k → x ≡ z) where
  by_lines : x ≡ cond (leb k m) y z
  by_lines = go (dec_le k m)
    where
      go : Dec (k ≤ m) → x ≡ cond (leb k m) y z
      go (yes h) = alike h ∙ rw (le-leb k m h) refl
      go (no h) = let l : m < k = omega arith in above l ∙ rw (lt-leb k m l) refl

  -- what is not answered above m is answered alike
  kept : {w : A} → (z ≡ w → ⊥) → x ≡ w → y ≡ w
  kept {w} other e = go (dec_le k m)
    where
      go : Dec (k ≤ m) → y ≡ w
      go (yes h) = sym (alike h) ∙ e
      go (no h) = absurd (other (sym (above (omega arith)) ∙ e))

not_given : {B C : Type 0} {number k : ℕ} {v : B} {o p : List C} → ◌≡◌ {A = Outcome B C} (refuses number k, o) (gives v, p) → ⊥
not_given {B} {C} {number} {k} {v} e = let f : ◌≡◌ {A = Reply B} (refuses number k) (gives v) = ap (λ (r : Outcome B C). r.0) e in differ cc

not_read : {octets : ℕ} {o p : List ℕ} → ◌≡◌ {A = (Result ℕ PbmFault) × List ℕ} (Err LinesNotAllowed, o) (Ok octets, p) → ⊥
not_read {octets} e = let f : Err LinesNotAllowed ≡ Ok octets = ap (λ (r : Result ℕ PbmFault × List ℕ). r.0) e in differ cc

-- ---- the calls, with at most m lines and with more

never : (a b : Bool) → cond a false (cond b false false) ≡ false
never true b = refl
never false true = refl
never false false = refl

module _ (m n : ℕ) (le : m ≤ n) where
  lines_alike : (k : ℕ) → k ≤ m → lines_within m k ≡ lines_within n k
  unfolding lines_within
  lines_alike k h = rw (le-leb k m h, le-leb k n (omega arith)) refl

  lines_above : (k : ℕ) → m < k → lines_within m k ≡ false
  unfolding lines_within
  lines_above k h = rw (lt-leb k m h) (never (eqb k 0) (eqb (k % 2) 0))

  module _ (bm : List ℕ) where
    module _ (h : lines_of bm ≤ m) where
      validity_alike : validity_within m bm ≡ validity_within n bm
      unfolding validity_within size_within
      validity_alike = rw (lines_alike (lines_of bm) h) refl

      writing_alike : (c : Check) (settings rate : ℕ) (o : List ℕ) → write_page_within m c settings rate bm o ≡ write_page_within n c settings rate bm o
      unfolding write_page_within judge_page_within
      writing_alike c settings rate o = rw validity_alike refl

      words_alike : (o : List ℤ) → words_of_bitmap_within m bm o ≡ words_of_bitmap_within n bm o
      unfolding words_of_bitmap_within
      words_alike o = rw validity_alike refl

      some_alike : (from k : ℕ) (o : List ℤ) → words_of_lines_within m bm from k o ≡ words_of_lines_within n bm from k o
      unfolding words_of_lines_within
      some_alike from k o = rw validity_alike refl

      saved_alike : (file o : List ℕ) → saved_within m bm file o ≡ saved_within n bm file o
      unfolding saved_within
      saved_alike file o = rw validity_alike refl

    module _ (h : m < lines_of bm) where
      validity_above : validity_within m bm ≡ Err BitmapSizeNotAllowed
      unfolding validity_within size_within
      validity_above = rw (lines_above (lines_of bm) h, never (ltb (length bm) 4) (eqb (get_or bm 0 0 + 256 * get_or bm 1 0) 1726)) refl

      writing_above : (c : Check) (settings rate : ℕ) (o : List ℕ) → write_page_within m c settings rate bm o ≡ (refuses (cond (request_allowed c rate) 17 20) 0, o)
      unfolding write_page_within judge_page_within
      writing_above c settings rate o = go (request_allowed c rate) refl
        where
          go : (b : Bool) → request_allowed c rate ≡ b → write_page_within m c settings rate bm o ≡ (refuses (cond b 17 20) 0, o)
          go true e = rw (e, validity_above) refl
          go false e = rw e refl

      words_above : (o : List ℤ) → words_of_bitmap_within m bm o ≡ (refuses 17 0, o)
      unfolding words_of_bitmap_within
      words_above o = rw validity_above refl

      some_above : (from k : ℕ) (o : List ℤ) → words_of_lines_within m bm from k o ≡ (refuses 17 0, o)
      unfolding words_of_lines_within
      some_above from k o = rw validity_above refl

      saved_above : (file o : List ℕ) → saved_within m bm file o ≡ (refuses 17 0, o)
      unfolding saved_within
      saved_above file o = rw validity_above refl

    -- where a file is written the request was allowed
    request : (c : Check) (settings rate : ℕ) (o p : List ℕ) (octets : ℕ) → write_page_within n c settings rate bm o ≡ (gives octets, p) → request_allowed c rate ≡ true
    unfolding write_page_within judge_page_within
    request c settings rate o p octets e = go (request_allowed c rate) refl
      where
        go : (b : Bool) → request_allowed c rate ≡ b → request_allowed c rate ≡ true
        go true f = f
        go false f = absurd (not_given (rw f at e))

  drawn_alike : (ws : List ℤ) (o : List ℕ) → lines_in_words (lines_of_words ws) ≤ m → bitmap_of_words_within m ws o ≡ bitmap_of_words_within n ws o
  unfolding bitmap_of_words_within
  drawn_alike ws o = go (lines_of_words ws)
    where
      go : (s : WordLines) → lines_in_words s ≤ m → drawn_within m s o ≡ drawn_within n s o
      go broken h = refl
      go (page lines) h = rw (lines_alike (length lines) h) refl

  drawn_above : (ws : List ℤ) (o : List ℕ) → m < lines_in_words (lines_of_words ws) → bitmap_of_words_within m ws o ≡ (refuses 17 0, o)
  unfolding bitmap_of_words_within
  drawn_above ws o = go (lines_of_words ws)
    where
      go : (s : WordLines) → m < lines_in_words s → drawn_within m s o ≡ (refuses 17 0, o)
      go broken h = absurd (omega arith)
      go (page lines) h = rw (lines_above (length lines) h) refl

  taken_alike : (file o : List ℕ) → lines_in_header (pbm_header_of file) ≤ m → bitmap_of_pbm_within m file o ≡ bitmap_of_pbm_within n file o
  unfolding bitmap_of_pbm_within taken_from_within
  taken_alike file o = go (pbm_header_of file)
    where
      width : (w h : ℕ) (rows : List ℕ) (b : Bool) → eqb w 1726 ≡ b → cond b h 0 ≤ m → taken_from_within m w h rows o ≡ taken_from_within n w h rows o
      width w h rows true e l = rw (e, lines_alike h l) refl
      width w h rows false e l = rw e refl

      go : (s : HeaderContent) → lines_in_header s ≤ m → taken_by_within m s o ≡ taken_by_within n s o
      go notP4 h = refl
      go unreadable h = refl
      go (says w h rows) l = width w h rows (eqb w 1726) refl l

  taken_above : (file o : List ℕ) → m < lines_in_header (pbm_header_of file) → bitmap_of_pbm_within m file o ≡ (Err LinesNotAllowed, o)
  unfolding bitmap_of_pbm_within taken_from_within
  taken_above file o = go (pbm_header_of file)
    where
      width : (w h : ℕ) (rows : List ℕ) (b : Bool) → eqb w 1726 ≡ b → m < cond b h 0 → taken_from_within m w h rows o ≡ (Err LinesNotAllowed, o)
      width w h rows true e l = rw (e, lines_above h l) refl
      width w h rows false e l = absurd (omega arith)

      go : (s : HeaderContent) → m < lines_in_header s → taken_by_within m s o ≡ (Err LinesNotAllowed, o)
      go notP4 h = absurd (omega arith)
      go unreadable h = absurd (omega arith)
      go (says w h rows) l = width w h rows (eqb w 1726) refl l

-- ---- the laws

pub limits : Limits
limits m n le =
    record {
      judge_page_lem = λ c file. by_lines (lines_in_file (file_reading_within n c file)) m (judged_alike le c file) (judged_above le c file);
      read_page_lem = λ c file o. by_lines (lines_in_file (file_reading_within n c file)) m (read_alike le c file o) (read_above le c file o);
      bitmap = λ bm. by_lines (lines_of bm) m (validity_alike m n le bm) (validity_above m n le bm);
      write_page_lem = λ c settings rate bm o. by_lines (lines_of bm) m (λ h. writing_alike m n le bm h c settings rate o) (λ h. writing_above m n le bm h c settings rate o);
      words_of_bitmap_lem = λ bm o. by_lines (lines_of bm) m (λ h. words_alike m n le bm h o) (λ h. words_above m n le bm h o);
      words_of_lines_lem = λ bm from k o. by_lines (lines_of bm) m (λ h. some_alike m n le bm h from k o) (λ h. some_above m n le bm h from k o);
      bitmap_of_words_lem = λ ws o. by_lines (lines_in_words (lines_of_words ws)) m (drawn_alike m n le ws o) (drawn_above m n le ws o);
      pbm_of_bitmap_lem = λ bm times o. by_lines (lines_of bm) m (λ h. saved_alike m n le bm h (pbm_of times bm) o) (λ h. saved_above m n le bm h (pbm_of times bm) o);
      png_of_bitmap_lem = λ bm times o. by_lines (lines_of bm) m (λ h. saved_alike m n le bm h (png_of times bm) o) (λ h. saved_above m n le bm h (png_of times bm) o);
      bitmap_of_pbm_lem = λ file o. by_lines (lines_in_header (pbm_header_of file)) m (taken_alike m n le file o) (taken_above m n le file o);
    }

pub all_kept : AllKept
all_kept m n le =
    record {
      judge_page_lem = λ c file t. kept (lines_in_file (file_reading_within n c file)) m (judged_alike le c file) (judged_above le c file) not_accepted;
      read_page_lem = λ c file o t p. kept (lines_in_file (file_reading_within n c file)) m (read_alike le c file o) (read_above le c file o) not_given;
      bitmap = λ bm. kept (lines_of bm) m (validity_alike m n le bm) (validity_above m n le bm) (λ e. differ cc);
      write_page_lem = λ c settings rate bm o octets p. kept (lines_of bm) m (λ h. writing_alike m n le bm h c settings rate o) (λ h. writing_above m n le bm h c settings rate o) not_given;
      words_of_bitmap_lem = λ bm o words p. kept (lines_of bm) m (λ h. words_alike m n le bm h o) (λ h. words_above m n le bm h o) not_given;
      words_of_lines_lem = λ bm from k o words p. kept (lines_of bm) m (λ h. some_alike m n le bm h from k o) (λ h. some_above m n le bm h from k o) not_given;
      bitmap_of_words_lem = λ ws o x p. kept (lines_in_words (lines_of_words ws)) m (drawn_alike m n le ws o) (drawn_above m n le ws o) not_given;
      pbm_of_bitmap_lem = λ bm times o octets p. kept (lines_of bm) m (λ h. saved_alike m n le bm h (pbm_of times bm) o) (λ h. saved_above m n le bm h (pbm_of times bm) o) not_given;
      png_of_bitmap_lem = λ bm times o octets p. kept (lines_of bm) m (λ h. saved_alike m n le bm h (png_of times bm) o) (λ h. saved_above m n le bm h (png_of times bm) o) not_given;
      bitmap_of_pbm_lem = λ file o octets p. kept (lines_in_header (pbm_header_of file)) m (taken_alike m n le file o) (taken_above m n le file o) not_read;
    }

pub all_new_refused : AllNewRefused
all_new_refused m n le =
    record {
      judge_page_lem = λ c file t e h. let s = judged_says n c file t e in judged_above le c file (omega (arith, s.0)) ∙ ap (refuses 15) s.1;
      read_page_lem = λ c file o t p e h. let s = read_says n c file o p t e in read_above le c file o (omega (arith, s.0)) ∙ ap (λ (k : ℕ). (refuses 15 k, o)) s.1;
      bitmap = λ bm e h. validity_above m n le bm h;
      write_page_lem = λ c settings rate bm o octets p e h. writing_above m n le bm h c settings rate o ∙ rw (request m n le bm c settings rate o p octets e) refl;
      words_of_bitmap_lem = λ bm o words p e h. words_above m n le bm h o;
      words_of_lines_lem = λ bm from k o words p e h. some_above m n le bm h from k o;
      bitmap_of_words_lem = λ ws o x p e h. drawn_above m n le ws o h;
      pbm_of_bitmap_lem = λ bm times o octets p e h. saved_above m n le bm h (pbm_of times bm) o;
      png_of_bitmap_lem = λ bm times o octets p e h. saved_above m n le bm h (png_of times bm) o;
      bitmap_of_pbm_lem = λ file o octets p e h. taken_above m n le file o h;
    }
