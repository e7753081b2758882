-- What the call answers, by the judgement. Assumes nothing.
use mathlib.Core.Path.{◌≡◌, refl, sym, ap, ◌∙◌}
use mathlib.Core.List.{List, ◌++◌}
use Prim.Native.Nat.{ℕ, ◌+◌, ◌*◌, ◌/◌, ◌%◌, ◌≤◌, ◌<◌, ◌^◌, min}
use native.Mathlib.Omega.{arith}
use lib.ListN.{length, take, drop, length-take}
use Rattle.refusal.specs.Reply.{Reply, gives, refuses_at, refuses, BitFits, SmallPlace}
use Rattle.refusal.proofs.Replies.{with_room, no_room, delivered_place, not_accepted}
use Rattle.bitmap.proofs.Columns.{length_bitmap_of}
use Rattle.register.specs.declared.Check.{Check}
use Rattle.state.specs.declared.State.{State}
use Rattle.bitmap.specs.Form.{bitmap_of}
use Rattle.bitmap.specs.Validity.{most_lines}
use Rattle.reader_progress.specs.declared.Page.{Page}
use Rattle.chain.specs.Chain.{blank}
use Rattle.reader_progress.specs.Progress.{first_progress}
use Rattle.reader_judge.specs.File.{FileReading, refused, page, reading_by_within, most_octets, file_reading, judgement_of, judge_page_within, judge_page}
use Rattle.reader.specs.Call.{laid_out, read_page_within, read_page}
use Rattle.reader.specs.Laws.{ReadPlace}
use Rattle.reader_record.specs.LayingPass.{columns_over}
use Rattle.reader_judge.specs.Laws.{place_of}
use Rattle.reader_judge.proofs.Files.{FactsFrom, paged}
use Rattle.reader_judge.proofs.Answers.{take_most, Known, judged_place, judged_bit}

-- what the second pass asks for, and what it lays
pub record Ready (file : List ℕ) (t : Page) (cs : List State) : Type 0 where
  pub even : t.lines % 2 ≡ 0
  pub few : t.lines ≤ most_lines
  pub octets : t.octets ≤ 2 ^ 46
  pub columns : columns_over file (t.octets / 76) 0 blank ≡ cs
  pub count : length cs ≡ t.columns.0
  pub room : length cs ≤ 1726 * (t.lines / 2)

pub ready : {c : Check} {file : List ℕ} {t : Page} (n : ℕ) → n ≡ min (length file) most_octets → (k : Known c file t) → Ready (take n file) t k.columns
unfolding reading_by_within most_octets
ready {c} {file} {t} n z k = rw (take_most n most_octets file z) (go (paged c (take most_octets file) (length (take most_octets file)) 0 first_progress t k.columns k.by))
  where
    go : FactsFrom (take most_octets file) 0 first_progress t k.columns → Ready (take most_octets file) t k.columns
    go g =
        let m : t.octets / 76 ≡ g.records = omega (arith, g.octets) in
        let l : _ = g.lines in
        record {
          even = omega arith;
          few = g.few;
          octets = omega (arith, g.inside, length-take most_octets file);
          columns = rw m (sym g.columns);
          count = omega (arith, g.count);
          room = omega (arith, g.count, g.whole);
        }

pub not_read : (c : Check) (file : List ℕ) (o : List ℕ) {x : Reply Page} {n k b : ℕ} → x ≡ judge_page c file → x ≡ refuses_at n k b → (refuses_at n k b, o) ≡ read_page c file o
unfolding read_page_within judge_page_within
not_read c file o {x} {n} {k} {b} e f = go (file_reading c file) (sym f ∙ e)
  where
    go : (s : FileReading) → refuses_at n k b ≡ judgement_of s → (refuses_at n k b, o) ≡ laid_out s o
    go (refused m j d) e = ap (λ (y : Reply Page). (y, o)) e
    go (page t cs) e = absurd (not_accepted e)

module _ {c : Check} {file : List ℕ} {t : Page} (o : List ℕ) (k : Known c file t) where
  -- the octets of its bitmap
  size : length (bitmap_of (t.lines / 2) k.columns) ≡ 4 + 216 * t.lines
  size = let r = ready (min (length file) most_octets) refl k in length_bitmap_of (t.lines / 2) k.columns ∙ omega (arith, r.even)

  pub too_short : length o < 4 + 216 * t.lines → {x : Reply Page} → x ≡ refuses 16 (t.octets / 76) → (x, o) ≡ read_page c file o
  unfolding read_page_within
  too_short h e = rw (k.is, e) (no_room t (t.octets / 76) (bitmap_of (t.lines / 2) k.columns) o (rw size h))

  pub delivers : {p : List ℕ} → 4 + 216 * t.lines ≤ length o → p ≡ bitmap_of (t.lines / 2) k.columns → (gives t, p ++ drop (4 + 216 * t.lines) o) ≡ read_page c file o
  unfolding read_page_within
  delivers h e = rw (k.is, e) (ap (λ (m : ℕ). (gives t, bitmap_of (t.lines / 2) k.columns ++ drop m o)) (sym size) ∙ with_room t (t.octets / 76) (bitmap_of (t.lines / 2) k.columns) o (rw size h))

laid_place : (s : FileReading) (o : List ℕ) → place_of (judgement_of s) < 2 ^ 40 → BitFits (judgement_of s) → SmallPlace (laid_out s o).0
laid_place (refused n k b) o h g = (h, g.1)
laid_place (page t cs) o h g = delivered_place t (t.octets / 76) (bitmap_of (t.lines / 2) cs) o h

pub read_place : ReadPlace
unfolding read_page_within judge_page_within
read_place c file o = laid_place (file_reading c file) o (judged_place c file) (judged_bit c file)
