-- A page written and read in parts: the words of lines are joined in order, and what words say is the line at their front and what the words behind it say. Assumes nothing.
use mathlib.Core.Bool.{Bool, true, false, cond, false≢true}
use mathlib.Core.Path.{◌≡◌, refl, sym, ap, ◌∙◌}
use mathlib.Core.List.{List, [], ◌∷◌, ◌++◌, append_assoc}
use Prim.Native.Nat.{zero, suc, ◌+◌}
use native.Mathlib.Omega.{arith}
use lib.IntN.{ℤ, pos, negsuc}
use lib.ListN.{length, take, drop, length-append, length-map, take-append-drop}
use lib.Seq.{drop-drop, drop_at}
use Rattle.bitmap.specs.Form.{Row, line_octets, bitmap_of_rows}
use Rattle.words.specs.Words.{line_words, row_of, joined, fits, line_allowed, all_allowed, WordLines, broken, page, cut_from, if_allowed, lines_of_words}
use Rattle.words.specs.Lines.{ended_line, lines_words, a_line, no_line, unended, front_from, behind_line, by_front}
use Rattle.words.specs.Laws.{PageOfLines, PartsOfLines, FewWords, LineByLine, DrawnLineByLine, FrontStays}
use Rattle.words.proofs.Rows.{fewer_words}
use Rattle.words.proofs.Begun.{fits_none, unfit, unfit_snoc}

-- ---- words of some lines

pub page_of_lines : PageOfLines
unfolding lines_words joined
page_of_lines [] = refl
page_of_lines (row ∷ rows) =
    ap (λ (ws : List ℤ). line_words row ++ (pos 0 ∷ ws)) (page_of_lines rows)
    ∙ sym (append_assoc (ended_line row) (lines_words rows) (pos 0 ∷ []) ∙ append_assoc (line_words row) (pos 0 ∷ []) (lines_words rows ++ (pos 0 ∷ [])))

lines_append : (rows rows' : List Row) → lines_words (rows ++ rows') ≡ lines_words rows ++ lines_words rows'
unfolding lines_words
lines_append [] rows' = refl
lines_append (row ∷ rows) rows' = ap (λ (ws : List ℤ). ended_line row ++ ws) (lines_append rows rows') ∙ sym (append_assoc (ended_line row) (lines_words rows) (lines_words rows'))

pub parts_of_lines : PartsOfLines
parts_of_lines rows from n =
    ap lines_words (sym (take-append-drop n (drop from rows))) ∙ lines_append (take n (drop from rows)) (drop n (drop from rows))
    ∙ ap (λ (rest : List Row). lines_words (take n (drop from rows)) ++ lines_words rest) (drop-drop n from rows)

pub few_words_of_lines : FewWords
unfolding lines_words
few_words_of_lines [] f = omega arith
few_words_of_lines (row ∷ rows) f =
    simp length-append (omega (arith, f.0, fewer_words row (omega (arith, f.0)), few_words_of_lines rows f.1))

-- ---- line by line

-- a line in front of all
cut_first : (ws line first : List ℤ) (lines : List (List ℤ)) → cut_from ws line (first ∷ lines) ≡ behind_line first (cut_from ws line lines)
unfolding cut_from
cut_first [] line first lines = refl
cut_first (pos zero ∷ ws) [] first lines = refl
cut_first (pos zero ∷ ws) (v ∷ line) first lines = cut_first ws [] first (lines ++ ((v ∷ line) ∷ []))
cut_first (pos (suc n) ∷ ws) line first lines = cut_first ws (line ++ (pos (suc n) ∷ [])) first lines
cut_first (negsuc n ∷ ws) line first lines = cut_first ws (line ++ (negsuc n ∷ [])) first lines

allowed_first : (line : List ℤ) (s : WordLines) → if_allowed (behind_line line s) ≡ cond (line_allowed line) (behind_line line (if_allowed s)) broken
unfolding all_allowed
allowed_first line broken = go (line_allowed line)
  where
    go : (t : Bool) → broken ≡ cond t broken broken
    go true = refl
    go false = refl
allowed_first line (page lines) = go (line_allowed line) (all_allowed lines)
  where
    go : (t a : Bool) → cond (cond t a false) (page (line ∷ lines)) broken ≡ cond t (behind_line line (cond a (page lines) broken)) broken
    go true true = refl
    go true false = refl
    go false a = refl

-- words behind the words of the line so far
by_front_lem : (ws line : List ℤ) → if_allowed (cut_from ws line []) ≡ by_front (front_from ws line) (line ++ ws)
unfolding cut_from front_from all_allowed lines_of_words
by_front_lem [] line = go (fits line)
  where
    go : (t : Bool) → broken ≡ by_front (cond t unended no_line) (line ++ [])
    go true = refl
    go false = refl
by_front_lem (pos zero ∷ ws) [] = refl
by_front_lem (pos zero ∷ ws) (v ∷ line) =
    ap if_allowed (cut_first ws [] (v ∷ line) []) ∙ allowed_first (v ∷ line) (cut_from ws [] []) ∙ go (line_allowed (v ∷ line))
  where
    rest : drop (length (v ∷ line) + 1) ((v ∷ line) ++ (pos 0 ∷ ws)) ≡ ws
    rest =
        ap (drop (length (v ∷ line) + 1)) (sym (append_assoc (v ∷ line) (pos 0 ∷ []) ws))
        ∙ drop_at ((v ∷ line) ++ (pos 0 ∷ [])) ws (length (v ∷ line) + 1) (length-append (v ∷ line) (pos 0 ∷ []))

    go : (t : Bool) → cond t (behind_line (v ∷ line) (lines_of_words ws)) broken ≡ by_front (cond t (a_line (v ∷ line)) no_line) ((v ∷ line) ++ (pos 0 ∷ ws))
    go true = ap (λ (us : List ℤ). behind_line (v ∷ line) (lines_of_words us)) (sym rest)
    go false = refl
by_front_lem (pos (suc n) ∷ ws) line = by_front_lem ws (line ++ (pos (suc n) ∷ [])) ∙ ap (by_front (front_from ws (line ++ (pos (suc n) ∷ [])))) (append_assoc line (pos (suc n) ∷ []) ws)
by_front_lem (negsuc n ∷ ws) line = by_front_lem ws (line ++ (negsuc n ∷ [])) ∙ ap (by_front (front_from ws (line ++ (negsuc n ∷ [])))) (append_assoc line (negsuc n ∷ []) ws)

pub line_by_line : LineByLine
unfolding lines_of_words
line_by_line ws = by_front_lem ws []

pub drawn_line_by_line : DrawnLineByLine
unfolding bitmap_of_rows line_octets
drawn_line_by_line line lines = rw (length-map lines row_of) refl

-- ---- words behind

pub front_unfit : (ws line : List ℤ) → fits line ≡ false → front_from ws line ≡ no_line
unfolding front_from
front_unfit [] line f = rw f refl
front_unfit (pos zero ∷ ws) [] f = absurd (false≢true (sym f ∙ fits_none))
front_unfit (pos zero ∷ ws) (v ∷ line) f = rw (unfit (v ∷ line) f) refl
front_unfit (pos (suc n) ∷ ws) line f = front_unfit ws (line ++ (pos (suc n) ∷ [])) (unfit_snoc line (pos (suc n)) f)
front_unfit (negsuc n ∷ ws) line f = front_unfit ws (line ++ (negsuc n ∷ [])) (unfit_snoc line (negsuc n) f)

stays : (ws rest line : List ℤ) → (front_from ws line ≡ unended → ⊥) → front_from (ws ++ rest) line ≡ front_from ws line
unfolding front_from
stays [] rest line h = go (fits line) refl h
  where
    go : (t : Bool) → fits line ≡ t → (cond t unended no_line ≡ unended → ⊥) → front_from rest line ≡ cond t unended no_line
    go true e h = absurd (h refl)
    go false e h = front_unfit rest line e
stays (pos zero ∷ ws) rest [] h = refl
stays (pos zero ∷ ws) rest (v ∷ line) h = refl
stays (pos (suc n) ∷ ws) rest line h = stays ws rest (line ++ (pos (suc n) ∷ [])) h
stays (negsuc n ∷ ws) rest line h = stays ws rest (line ++ (negsuc n ∷ [])) h

pub front_stays : FrontStays
front_stays ws rest h = stays ws rest [] h
