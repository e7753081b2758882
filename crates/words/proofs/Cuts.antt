-- The words of rows are cut into their lines, and words that are cut into allowed lines are those of rows: no word of a line is 0, so each 0 ends a line or the page. Assumes nothing.
use mathlib.Core.Bool.{Bool, true, false, cond}
use mathlib.Core.Path.{◌≡◌, refl, sym, ap, ap₂, subst, ◌∙◌}
use mathlib.Core.List.{List, [], ◌∷◌, ◌++◌, map, append_assoc, append-nil}
use Prim.Native.Nat.{zero, suc, ◌≤◌, ◌<◌}
use native.Mathlib.Omega.{arith}
use lib.IntN.{ℤ, pos, negsuc, nat_abs}
use lib.ListN.{length, take, length-append}
use lib.Seq.{take_at}
use Rattle.basics.proofs.Apart.{differ}
use Rattle.bitmap.specs.Form.{Row}
use Rattle.bitmap.specs.Laws.{Full}
use Rattle.bitmap.proofs.Taken.{if_both}
use Rattle.words.specs.Words.{line_words, joined, page_words, row_of, line_allowed, all_allowed, WordLines, broken, page, cut_from, if_allowed, lines_of_words}
use Rattle.words.proofs.Rows.{NoZero, Runs, row_back, row_length, words_allowed, words_runs, words_back}

-- lines of words, none empty and none with a 0
abbrev pub AllRuns : List (List ℤ) → Type 0
AllRuns [] = Unit {0}
AllRuns (line ∷ lines) = Runs line × AllRuns lines

-- ---- the words of a page

cut_line : (line ws before : List ℤ) (lines : List (List ℤ)) → NoZero line → cut_from (line ++ ws) before lines ≡ cut_from ws (before ++ line) lines
unfolding cut_from
cut_line [] ws before lines z = ap (λ (l : List ℤ). cut_from ws l lines) (sym (append-nil before))
cut_line (pos zero ∷ line) ws before lines z = absurd (omega arith)
cut_line (pos (suc n) ∷ line) ws before lines z =
    cut_line line ws (before ++ (pos (suc n) ∷ [])) lines z.1 ∙ ap (λ (l : List ℤ). cut_from ws l lines) (append_assoc before (pos (suc n) ∷ []) line)
cut_line (negsuc n ∷ line) ws before lines z =
    cut_line line ws (before ++ (negsuc n ∷ [])) lines z.1 ∙ ap (λ (l : List ℤ). cut_from ws l lines) (append_assoc before (negsuc n ∷ []) line)

cut_end : (line ws : List ℤ) (lines : List (List ℤ)) → Runs line → cut_from (line ++ (pos 0 ∷ ws)) [] lines ≡ cut_from ws [] (lines ++ (line ∷ []))
unfolding cut_from
cut_end [] ws lines r = absurd (omega arith)
cut_end (v ∷ line) ws lines r = cut_line (v ∷ line) (pos 0 ∷ ws) [] lines r.1

cut_joined : (ls lines : List (List ℤ)) (rest : List ℤ) → AllRuns ls → cut_from (joined ls ++ rest) [] lines ≡ page (lines ++ ls)
unfolding cut_from joined
cut_joined [] lines rest r = ap page (sym (append-nil lines))
cut_joined (l ∷ ls) lines rest r =
    ap (λ (ws : List ℤ). cut_from ws [] lines) (append_assoc l (pos 0 ∷ joined ls) rest)
    ∙ cut_end l (joined ls ++ rest) lines r.0 ∙ cut_joined ls (lines ++ (l ∷ [])) rest r.1 ∙ ap page (append_assoc lines (l ∷ []) ls)

runs_rows : (rows : List Row) → AllRuns (map line_words rows)
runs_rows [] = tt
runs_rows (row ∷ rows) = (words_runs row, runs_rows rows)

allowed_rows : (rows : List Row) → Full rows → all_allowed (map line_words rows) ≡ true
unfolding all_allowed
allowed_rows [] f = refl
allowed_rows (row ∷ rows) f = rw (words_allowed row (omega arith)) (allowed_rows rows f.1)

-- The words of rows say their lines, whatever stands behind them.
pub said_words : (rows : List Row) (rest : List ℤ) → Full rows → lines_of_words (page_words rows ++ rest) ≡ page (map line_words rows)
unfolding lines_of_words
said_words rows rest f = rw (cut_joined (map line_words rows) [] rest (runs_rows rows), allowed_rows rows f)

pub rows_back : (rows : List Row) → Full rows → map row_of (map line_words rows) ≡ rows
rows_back [] f = refl
rows_back (row ∷ rows) f = ap₂ ◌∷◌ (row_back row f.0) (rows_back rows f.1)

-- ---- the page of words

pub no_zero_snoc : (line : List ℤ) (w : ℤ) → NoZero line → 0 < nat_abs w → NoZero (line ++ (w ∷ []))
no_zero_snoc [] w z h = (h, tt)
no_zero_snoc (v ∷ line) w z h = (z.0, no_zero_snoc line w z.1 h)

-- lines cut out of words, behind others: the words begin with theirs
abbrev pub CutTo : List ℤ → List (List ℤ) → List (List ℤ) → Type 0
CutTo ws lines out = (more : List (List ℤ)) × (rest : List ℤ) × (out ≡ lines ++ more) × (ws ≡ joined more ++ rest) × AllRuns more

pub cut_to : (ws line : List ℤ) (lines out : List (List ℤ)) → NoZero line → cut_from ws line lines ≡ page out → CutTo (line ++ ws) lines out
unfolding cut_from joined
cut_to [] line lines out z e = differ cc
cut_to (pos zero ∷ ws) [] lines out z e = let q : out ≡ lines = cc in ([], ws, q ∙ sym (append-nil lines), refl, tt)
cut_to (pos zero ∷ ws) (v ∷ line) lines out z e =
    let r = cut_to ws [] (lines ++ ((v ∷ line) ∷ [])) out tt e in
    let o : out ≡ lines ++ ((v ∷ line) ∷ r.0) = r.2 ∙ append_assoc lines ((v ∷ line) ∷ []) r.0 in
    let j = ap (λ (l : List ℤ). (v ∷ line) ++ (pos 0 ∷ l)) r.3 ∙ sym (append_assoc (v ∷ line) (pos 0 ∷ joined r.0) r.1) in
    ((v ∷ line) ∷ r.0, r.1, o, j, ((omega arith, z), r.4))
cut_to (pos (suc n) ∷ ws) line lines out z e =
    rw (append_assoc line (pos (suc n) ∷ []) ws) at (cut_to ws (line ++ (pos (suc n) ∷ [])) lines out (no_zero_snoc line (pos (suc n)) z (omega arith)) e)
cut_to (negsuc n ∷ ws) line lines out z e =
    rw (append_assoc line (negsuc n ∷ []) ws) at (cut_to ws (line ++ (negsuc n ∷ [])) lines out (no_zero_snoc line (negsuc n) z (omega arith)) e)

pub if_allowed_lem : (s : WordLines) (lines : List (List ℤ)) → if_allowed s ≡ page lines → (s ≡ page lines) × (all_allowed lines ≡ true)
if_allowed_lem broken lines e = differ cc
if_allowed_lem (page out) lines e = go (all_allowed out) refl e
  where
    go : (t : Bool) → all_allowed out ≡ t → cond t (page out) broken ≡ page lines → (page out ≡ page lines) × (all_allowed lines ≡ true)
    go true q e = let p : lines ≡ out = cc in (e, rw p q)
    go false q e = differ cc

lines_back : (lines : List (List ℤ)) → AllRuns lines → all_allowed lines ≡ true → (map line_words (map row_of lines) ≡ lines) × Full (map row_of lines)
unfolding all_allowed
lines_back [] r e = (refl, tt)
lines_back (line ∷ lines) r e =
    let h = if_both (line_allowed line) (all_allowed lines) e in
    let m = lines_back lines r.1 h.1 in
    (ap₂ ◌∷◌ (words_back line r.0 h.0) m.0, (row_length line h.0, m.1))

-- Words that say lines begin with the words of their rows.
pub words_said : (ws : List ℤ) (lines : List (List ℤ)) → lines_of_words ws ≡ page lines →
    (take (length (joined lines)) ws ≡ joined lines) × (length (joined lines) ≤ length ws) × (map line_words (map row_of lines) ≡ lines) × Full (map row_of lines)
unfolding lines_of_words
words_said ws lines e =
    let h = if_allowed_lem (cut_from ws [] []) lines e in
    let r = cut_to ws [] [] lines tt h.0 in
    let q : ws ≡ joined lines ++ r.1 = r.3 ∙ ap (λ (l : List (List ℤ)). joined l ++ r.1) (sym r.2) in
    let m = lines_back lines (subst AllRuns (sym r.2) r.4) h.1 in
    (rw q (take_at (joined lines) r.1 (length (joined lines)) refl), omega (arith, simp length-append at (ap length q)), m.0, m.1)
