-- And back: the words of a bitmap read back give the bitmap, and words that are accepted, written again from their bitmap, are the same words
-- up to the page's end, so that a page has one form in words. Assumes nothing.
use mathlib.Core.Bool.{Bool, true, false, cond}
use mathlib.Core.Path.{◌≡◌, refl, sym, ap, subst, ◌∙◌}
use mathlib.Core.List.{List, map}
use Prim.Native.Nat.{ℕ, ◌+◌, ◌*◌, ◌≤◌}
use lib.IntN.{ℤ}
use lib.ListN.{length, length-map, take, drop}
use lib.Seq.{take_at}
use Rattle.basics.specs.Placed.{at_front}
use Rattle.refusal.specs.Reply.{gives, refuses, Outcome, delivered}
use Rattle.refusal.proofs.Replies.{with_room, accepted, not_accepted}
use Rattle.bitmap.specs.Form.{lines_of, rows_of, bitmap_of_rows}
use Rattle.bitmap.specs.Validity.{lines_allowed}
use Rattle.bitmap.proofs.Columns.{rows_bitmap}
use Rattle.bitmap.proofs.Pels.{length_bitmap}
use Rattle.bitmap.proofs.Taken.{lines_are, lines_pass, legal, lines_rows, full_rows_of, bitmap_rows, bitmap_taken}
use Rattle.words.specs.declared.Extent.{Extent}
use Rattle.words.specs.Words.{line_words, row_of, joined, page_words, WordLines, broken, page, lines_of_words}
use Rattle.words.specs.Calls.{words_of_bitmap, page_of, extent_of, drawn_if, bitmap_of_words_within}
use Rattle.words.specs.Laws.{BitmapReadBack, WordsWrittenBack}
use Rattle.words.proofs.Answers.{whole_words}
use Rattle.words.proofs.Cuts.{said_words, rows_back, words_said}

pub bitmap_read_back : BitmapReadBack
unfolding bitmap_of_words_within
bitmap_read_back bm octets e rest o h =
    let l = legal bm e in
    let n : length (map line_words (rows_of bm)) ≡ lines_of bm = length-map (rows_of bm) line_words ∙ lines_rows bm in
    let b : bitmap_of_rows (map row_of (map line_words (rows_of bm))) ≡ bm = ap bitmap_of_rows (rows_back (rows_of bm) (full_rows_of bm)) ∙ bitmap_rows bm octets e in
    rw (said_words (rows_of bm) rest (full_rows_of bm), n, lines_pass l.lines, b, ← l.size) (sym (with_room _ 0 bm o h))

-- accepted words: they say lines, of an allowed number, and the output has their bitmap in front
record Drawn (s : WordLines) (o p : List ℕ) (e : Extent) : Type 0 where
  lines : List (List ℤ)
  says : s ≡ page lines
  allowed : lines_allowed (length lines) ≡ true
  extent : e ≡ extent_of lines
  output : p ≡ at_front (bitmap_of_rows (map row_of lines)) o

drawn_as : (s : WordLines) (o p : List ℕ) (e : Extent) → drawn_if s o ≡ (gives e, p) → Drawn s o p e
drawn_as broken o p e q = absurd (not_accepted (ap (λ (d : Outcome Extent ℕ). d.0) q))
drawn_as (page lines) o p e q = go (lines_allowed (length lines)) refl q
  where
    go : (a : Bool) → lines_allowed (length lines) ≡ a → cond {A = Outcome Extent ℕ} a (delivered (extent_of lines) 0 (page_of (page lines)) o) (refuses 17 0, o) ≡ (gives e, p) → Drawn (page lines) o p e
    go true f q = let d = accepted (extent_of lines) e 0 (page_of (page lines)) o p q in record { lines = lines; says = refl; allowed = f; extent = d.value_is; output = d.output }
    go false f q = absurd (not_accepted (ap (λ (d : Outcome Extent ℕ). d.0) q))

pub words_written_back : WordsWrittenBack
unfolding bitmap_of_words_within
words_written_back ws o p e q out h = let a = drawn_as (lines_of_words ws) o p e q in go a.lines a.says a.allowed a.extent a.output
  where
    go : (lines : List (List ℤ)) → lines_of_words ws ≡ page lines → lines_allowed (length lines) ≡ true → e ≡ extent_of lines →
        p ≡ at_front (bitmap_of_rows (map row_of lines)) o → words_of_bitmap (take e.octets p) out ≡ (gives e.words, at_front (take e.words ws) out)
    go lines s a x y =
        let w = words_said ws lines s in
        let n : length (map row_of lines) ≡ length lines = length-map lines row_of in
        let f : length (bitmap_of_rows (map row_of lines)) ≡ 4 + 216 * length lines = length_bitmap (map row_of lines) ∙ ap (λ (m : ℕ). 4 + 216 * m) n in
        let g : page_words (rows_of (bitmap_of_rows (map row_of lines))) ≡ joined lines = ap page_words (rows_bitmap (map row_of lines) w.3) ∙ ap joined w.2 in
        let k : length (joined lines) ≤ length out = subst (λ (z : Extent). z.words ≤ length out) x h in
        let t = whole_words (bitmap_of_rows (map row_of lines)) out (bitmap_taken (map row_of lines) w.3 (lines_are (length (map row_of lines)) (rw n a))) (rw g k) in
        rw (x, y, take_at (bitmap_of_rows (map row_of lines)) (drop (length (bitmap_of_rows (map row_of lines))) o) (4 + 216 * length lines) f, w.0) (sym (rw g at t))
