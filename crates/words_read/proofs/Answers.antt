-- What the call on run words answers, by the judging of its input. Assumes nothing.
use mathlib.Core.Bool.{Bool, true, false, cond}
use mathlib.Core.Path.{◌≡◌, refl, sym, ap, ◌∙◌}
use mathlib.Core.List.{List, ◌++◌, map}
use Prim.Native.Nat.{ℕ, ◌+◌, ◌*◌, ◌<◌, ◌≤◌}
use lib.IntN.{ℤ}
use native.Mathlib.Omega.{arith}
use lib.ListN.{length, drop, length-map}
use Rattle.basics.proofs.Apart.{differ}
use Rattle.refusal.specs.Reply.{gives, refuses, Outcome, SmallPlace, delivered}
use Rattle.refusal.proofs.Replies.{with_room, no_room, delivered_place}
use Rattle.bitmap.specs.Validity.{lines_allowed}
use Rattle.bitmap.proofs.Pels.{length_bitmap}
use Rattle.words_read.specs.declared.Count.{Count}
use Rattle.words.specs.declared.Extent.{Extent}
use Rattle.words.specs.Words.{row_of, WordLines, broken, page, lines_of_words}
use Rattle.words.specs.Calls.{page_of, extent_of, drawn_if, bitmap_of_words_within, bitmap_of_words}
use Rattle.words_read.specs.Scan.{counted}
use Rattle.words_read.proofs.Scans.{by_count}
use Rattle.std.specs.Prelude.{Some, None}

pub invalid_drawn : (ws : List ℤ) (o : List ℕ) → counted (lines_of_words ws) ≡ None → (refuses 22 0, o) ≡ bitmap_of_words ws o
unfolding bitmap_of_words_within
invalid_drawn ws o e = go (lines_of_words ws) e
  where
    go : (s : WordLines) → counted s ≡ None → (refuses 22 0, o) ≡ drawn_if s o
    go broken e = refl
    go (page lines) e = differ cc

-- the octets of a page's bitmap
size : (lines : List (List ℤ)) → length (page_of (page lines)) ≡ 4 + 216 * length lines
size lines = length_bitmap (map row_of lines) ∙ ap (λ (m : ℕ). 4 + 216 * m) (length-map lines row_of)

module _ (ws : List ℤ) (o : List ℕ) {n : Count} where
  pub many_drawn : counted (lines_of_words ws) ≡ Some n → lines_allowed n.lines ≡ false → (refuses 17 0, o) ≡ bitmap_of_words ws o
  unfolding bitmap_of_words_within
  many_drawn = by_count (lines_of_words ws) (λ s m. lines_allowed m.lines ≡ false → (refuses 17 0, o) ≡ drawn_if s o) (λ all f. rw f refl)

  pub short_drawn : counted (lines_of_words ws) ≡ Some n → lines_allowed n.lines ≡ true → length o < 4 + 216 * n.lines → (refuses 16 0, o) ≡ bitmap_of_words ws o
  unfolding bitmap_of_words_within
  short_drawn =
      by_count (lines_of_words ws) (λ s m. lines_allowed m.lines ≡ true → length o < 4 + 216 * m.lines → (refuses 16 0, o) ≡ drawn_if s o)
      (λ all f h. rw f (no_room (extent_of all) 0 (page_of (page all)) o (rw (size all) h)))

  pub whole_drawn : {p : List ℕ} → counted (lines_of_words ws) ≡ Some n → lines_allowed n.lines ≡ true → 4 + 216 * n.lines ≤ length o → p ≡ page_of (lines_of_words ws) →
      (gives (record { octets = 4 + 216 * n.lines; words = n.words }), p ++ drop (4 + 216 * n.lines) o) ≡ bitmap_of_words ws o
  unfolding bitmap_of_words_within
  whole_drawn {p} =
      by_count (lines_of_words ws)
      (λ s m. lines_allowed m.lines ≡ true → 4 + 216 * m.lines ≤ length o → p ≡ page_of s → (gives (record { octets = 4 + 216 * m.lines; words = m.words }), p ++ drop (4 + 216 * m.lines) o) ≡ drawn_if s o)
      (λ all f h q. rw (f, q) (ap (λ (m : ℕ). (gives (extent_of all), page_of (page all) ++ drop m o)) (sym (size all)) ∙ with_room (extent_of all) 0 (page_of (page all)) o (rw (size all) h)))

-- every refusal falls at record 0
pub drawn_place : (ws : List ℤ) (o : List ℕ) → SmallPlace (bitmap_of_words ws o).0
unfolding bitmap_of_words_within
drawn_place ws o = go (lines_of_words ws)
  where
    go : (s : WordLines) → SmallPlace (drawn_if s o).0
    go broken = (omega arith, omega arith)
    go (page lines) = room (lines_allowed (length lines))
      where
        room : (a : Bool) → SmallPlace (cond {A = Outcome Extent ℕ} a (delivered (extent_of lines) 0 (page_of (page lines)) o) (refuses 17 0, o)).0
        room true = delivered_place (extent_of lines) 0 (page_of (page lines)) o (omega arith)
        room false = (omega arith, omega arith)
