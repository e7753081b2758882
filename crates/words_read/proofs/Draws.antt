-- A page drawn word by word: the page holds the lines done and the present line so far, and white behind them. Assumes nothing.
use mathlib.Core.Bool.{true, false, false≢true}
use mathlib.Core.Path.{◌≡◌, refl, sym, ap, subst, ◌∙◌}
use mathlib.Core.List.{List, [], ◌∷◌, ◌++◌, map}
use Prim.Native.Nat.{ℕ, zero, suc, ◌+◌, ◌-◌, ◌*◌, ◌≤◌, ◌<◌, ◌^◌, min}
use native.Mathlib.Decide.{dec_lt}
use native.Mathlib.Numerals.{add-one}
use native.Mathlib.Omega.{arith}
use borrow.Author.Tests.{eq-eqb, eqb-true}
use lib.IntN.{ℤ, pos, negsuc, nat_abs}
use lib.ListN.{length, length-map, get_or, take, drop, replicate, length-append, length-take, length-replicate, get_or-replicate, drop_of_length-le, get_or-append, get_or-eq_default}
use lib.Seq.{get_or-take, get_or-append_seam, drop-cons}
use Rattle.octets.specs.Bits.{Bit, O, I, num}
use Rattle.basics.proofs.Padding.{behind_new, behind_old, behind_default}
use Rattle.basics.proofs.Apart.{differ}
use Rattle.bitmap.specs.Form.{Row, bitmap_of_rows}
use Rattle.bitmap.specs.Validity.{most_lines}
use Rattle.bitmap.specs.Laid.{SetIfBlack}
use Rattle.bitmap.proofs.Pels.{pel_at, most_small, Shows, shows_bitmap, shows_as, shown, Inked, shows_inked}
use Rattle.words_read.specs.declared.Count.{Count}
use Rattle.words_read.specs.declared.Pen.{Pen}
use Rattle.words.specs.Words.{colour_of, pels_of_words, row_of, joined, WordLines, broken, page, cut_from, if_allowed, lines_of_words}
use Rattle.words.specs.Calls.{page_of}
use Rattle.words_read.specs.Scan.{counted, moved, ends_page}
use Rattle.words.proofs.Rows.{NoZero, fits_parts}
use Rattle.words.proofs.Cuts.{no_zero_snoc, cut_to, if_allowed_lem}
use Rattle.words.proofs.Begun.{pels_snoc, pels_more}
use Rattle.words_read.proofs.Scans.{cut_fits, by_count}
use Rattle.std.specs.Prelude.{Some}

-- ---- the rows so far

pub begun_rows : List (List ℤ) → List ℤ → List Row
begun_rows done line = map pels_of_words done ++ (pels_of_words line ∷ [])

-- of n rows in all
pub so_far : ℕ → List (List ℤ) → List ℤ → List Row
so_far n done line = take n (begun_rows done line ++ replicate n [])

length_so_far : (n : ℕ) (done : List (List ℤ)) (line : List ℤ) → length (so_far n done line) ≡ n
unfolding so_far
length_so_far n done line =
    length-take n (begun_rows done line ++ replicate n []) ∙ least _ (length-append (begun_rows done line) (replicate n []) ∙ ap (λ (k : ℕ). length (begun_rows done line) + k) (length-replicate {A = Row} n []))
  where
    least : {a : ℕ} (b : ℕ) → a ≡ b + n → min n a ≡ n
    least b e = omega arith

row_so_far : (n : ℕ) (done : List (List ℤ)) (line : List ℤ) (r : ℕ) → r < n → get_or (so_far n done line) r [] ≡ get_or (begun_rows done line) r []
unfolding so_far
row_so_far n done line r h = get_or-take n (begun_rows done line ++ replicate n []) r [] h ∙ behind_default (begun_rows done line) n [] r

-- the rows done, the present one, and those to come
row_done : (done : List (List ℤ)) (line : List ℤ) (r : ℕ) → r < length done → get_or (begun_rows done line) r [] ≡ get_or (map pels_of_words done) r []
unfolding begun_rows
row_done done line r h = get_or-append (map pels_of_words done) (pels_of_words line ∷ []) [] r (omega (arith, length-map done pels_of_words))

row_now : (done : List (List ℤ)) (line : List ℤ) (r : ℕ) → r ≡ length done → get_or (begun_rows done line) r [] ≡ pels_of_words line
unfolding begun_rows
row_now done line r e = rw (e ∙ sym (length-map done pels_of_words)) (get_or-append_seam (map pels_of_words done) (pels_of_words line) [] [])

row_next : (done : List (List ℤ)) (line : List ℤ) (r : ℕ) → length done < r → get_or (begun_rows done line) r [] ≡ []
unfolding begun_rows
row_next done line r h = get_or-eq_default (map pels_of_words done ++ (pels_of_words line ∷ [])) [] (simp length-append (omega (arith, length-map done pels_of_words)))

-- two present lines of which all pels are the same but those of the present row
same_others : (done : List (List ℤ)) (line line' : List ℤ) (r : ℕ) → (r ≡ length done → ⊥) → get_or (begun_rows done line') r [] ≡ get_or (begun_rows done line) r []
same_others done line line' r f = go (dec_lt r (length done)) (dec_lt (length done) r)
  where
    go : Dec (r < length done) → Dec (length done < r) → get_or (begun_rows done line') r [] ≡ get_or (begun_rows done line) r []
    go (yes h) d = row_done done line' r h ∙ sym (row_done done line r h)
    go (no h) (yes l) = row_next done line' r l ∙ sym (row_next done line r l)
    go (no h) (no l) = absurd (f (omega arith))

-- ---- one word more

module _ (n : ℕ) (done : List (List ℤ)) (line : List ℤ) (w : ℤ) (in-page : length done < n) where
  -- the present row then
  row_then : get_or (so_far n done (line ++ (w ∷ []))) (length done) [] ≡ pels_of_words line ++ replicate (nat_abs w) (colour_of w)
  row_then = row_so_far n done (line ++ (w ∷ [])) (length done) in-page ∙ row_now done (line ++ (w ∷ [])) (length done) refl ∙ pels_more line w

  row_was : get_or (so_far n done line) (length done) [] ≡ pels_of_words line
  row_was = row_so_far n done line (length done) in-page ∙ row_now done line (length done) refl

  row_other : (q : ℕ) → q < n → (q ≡ length done → ⊥) → get_or (so_far n done (line ++ (w ∷ []))) q [] ≡ get_or (so_far n done line) q []
  row_other q h f = row_so_far n done (line ++ (w ∷ [])) q h ∙ same_others done line (line ++ (w ∷ [])) q f ∙ sym (row_so_far n done line q h)

  -- past the last row there is none
  row_past : (q : ℕ) (l : List ℤ) → n ≤ q → get_or (so_far n done l) q [] ≡ []
  row_past q l h = get_or-eq_default (so_far n done l) [] (omega (arith, length_so_far n done l))

  inked_more : colour_of w ≡ I → Inked (length done) (length (pels_of_words line)) (nat_abs w) (so_far n done line) (so_far n done (line ++ (w ∷ [])))
  inked_more e =
      record {
        lines = length_so_far n done (line ++ (w ∷ [])) ∙ sym (length_so_far n done line);
        black = λ y h l. ap (λ (row : Row). get_or row y O) row_then ∙ behind_new (pels_of_words line) (nat_abs w) (colour_of w) O y h l ∙ e;
        kept = λ q y f h. go q y f (dec_lt q n) (dec_lt q (length done)) (dec_lt (length done) q);
      }
    where
      go : (q y : ℕ) → (q ≡ length done → length (pels_of_words line) ≤ y → y < length (pels_of_words line) + nat_abs w → ⊥) → Dec (q < n) → Dec (q < length done) → Dec (length done < q) →
          pel_at (so_far n done (line ++ (w ∷ []))) q y ≡ pel_at (so_far n done line) q y
      go q y f (no h) a b = ap (λ (row : Row). get_or row y O) (row_past q (line ++ (w ∷ [])) (omega arith) ∙ sym (row_past q line (omega arith)))
      go q y f (yes h) (yes a) b = ap (λ (row : Row). get_or row y O) (row_other q h (λ e. omega arith))
      go q y f (yes h) (no a) (yes b) = ap (λ (row : Row). get_or row y O) (row_other q h (λ e. omega arith))
      go q y f (yes h) (no a) (no b) =
          let z : q ≡ length done = omega arith in
          subst (λ (k : ℕ). pel_at (so_far n done (line ++ (w ∷ []))) k y ≡ pel_at (so_far n done line) k y) (sym z)
          (ap (λ (row : Row). get_or row y O) row_then ∙ behind_old (pels_of_words line) (nat_abs w) (colour_of w) O y (f z) ∙ ap (λ (row : Row). get_or row y O) (sym row_was))

  white_more : colour_of w ≡ O → (q y : ℕ) → q < length (so_far n done line) → y < 1728 → pel_at (so_far n done (line ++ (w ∷ []))) q y ≡ pel_at (so_far n done line) q y
  white_more e q y h m = go (dec_lt q (length done)) (dec_lt (length done) q)
    where
      on : q < n
      on = omega (arith, length_so_far n done line)

      go : Dec (q < length done) → Dec (length done < q) → pel_at (so_far n done (line ++ (w ∷ []))) q y ≡ pel_at (so_far n done line) q y
      go (yes a) b = ap (λ (row : Row). get_or row y O) (row_other q on (λ e. omega arith))
      go (no a) (yes b) = ap (λ (row : Row). get_or row y O) (row_other q on (λ e. omega arith))
      go (no a) (no b) =
          let z : q ≡ length done = omega arith in
          subst (λ (k : ℕ). pel_at (so_far n done (line ++ (w ∷ []))) k y ≡ pel_at (so_far n done line) k y) (sym z)
          (ap (λ (row : Row). get_or row y O) (row_then ∙ ap (λ (c : Bit). pels_of_words line ++ replicate (nat_abs w) c) e) ∙ behind_default (pels_of_words line) (nat_abs w) O y ∙ ap (λ (row : Row). get_or row y O) (sym row_was))

-- a line is done: the rows are the same
shows_done : (n : ℕ) (done : List (List ℤ)) (line : List ℤ) {o : List ℕ} → Shows (so_far n done line) o → Shows (so_far n (done ++ (line ∷ [])) []) o
unfolding begun_rows pels_of_words
shows_done n done line s =
    shows_as (length_so_far n (done ++ (line ∷ [])) [] ∙ sym (length_so_far n done line))
    (λ r x h l. let on : r < n = omega (arith, length_so_far n done line) in
    ap (λ (row : Row). get_or row x O) (row_so_far n (done ++ (line ∷ [])) [] r on
    ∙ ap (λ (rows : List Row). get_or (rows ++ ([] ∷ [])) r []) (map_more done line) ∙ behind_default (map pels_of_words done ++ (pels_of_words line ∷ [])) 1 [] r ∙ sym (row_so_far n done line r on))) s
  where
    map_more : (done : List (List ℤ)) (line : List ℤ) → map pels_of_words (done ++ (line ∷ [])) ≡ map pels_of_words done ++ (pels_of_words line ∷ [])
    map_more [] line = refl
    map_more (l ∷ done) line = ap (λ (rows : List Row). pels_of_words l ∷ rows) (map_more done line)

-- all lines are done: the rows are theirs
whole_rows : (all : List (List ℤ)) {o : List ℕ} → Shows (so_far (length all) all []) o → Shows (map row_of all) o
unfolding row_of
whole_rows all s =
    shows_as (length-map all row_of ∙ sym (length_so_far (length all) all [])) (λ r x h l. pel r x (omega (arith, length_so_far (length all) all []))) s
  where
    at : (f : List ℤ → Row) (ls : List (List ℤ)) (r : ℕ) → r < length ls → get_or (map f ls) r [] ≡ f (get_or ls r [])
    at f [] r h = absurd (omega arith)
    at f (l ∷ ls) zero h = refl
    at f (l ∷ ls) (suc r) h = at f ls r (omega arith)

    pel : (r x : ℕ) → r < length all → pel_at (map row_of all) r x ≡ pel_at (so_far (length all) all []) r x
    pel r x h =
        ap (λ (row : Row). get_or row x O) (at row_of all r h) ∙ behind_default (pels_of_words (get_or all r [])) (1726 - length (pels_of_words (get_or all r []))) O x
        ∙ ap (λ (row : Row). get_or row x O) (sym (row_so_far (length all) all [] r h ∙ row_done all [] r h ∙ at pels_of_words all r h))

-- ---- a page begun

pub record Begun (ws : List ℤ) (i : ℕ) (pen : Pen) (o : List ℕ) : Type 0 where
  pub all : List (List ℤ)
  pub said : lines_of_words ws ≡ page all
  pub few : length all ≤ most_lines
  pub done : List (List ℤ)
  pub line : List ℤ
  pub runs : NoZero line
  pub left : if_allowed (cut_from (drop i ws) line done) ≡ page all
  pub row : pen.row ≡ 32 + 1728 * length done
  pub at : pen.at ≡ pen.row + length (pels_of_words line)
  pub shows : Shows (so_far (length all) done line) o

-- the lines that words say, by their count
page_of_lem : (s : WordLines) (n : Count) → counted s ≡ Some n → (all : List (List ℤ)) × (s ≡ page all) × (length all ≡ n.lines)
page_of_lem s n e = by_count s (λ s m. (all : List (List ℤ)) × (s ≡ page all) × (length all ≡ m.lines)) (λ all. (all, refl, refl)) e

pub begun : (ws : List ℤ) (n : Count) (o : List ℕ) → counted (lines_of_words ws) ≡ Some n → n.lines ≤ most_lines → o ≡ bitmap_of_rows (replicate n.lines []) → Begun ws 0 (record { row = 32; at = 32 }) o
unfolding lines_of_words pels_of_words begun_rows
begun ws n o e h f =
    let p = page_of_lem (lines_of_words ws) n e in
    let k : length p.0 ≤ most_lines = omega (arith, p.2) in
    record {
      all = p.0;
      said = p.1;
      few = k;
      done = [];
      line = [];
      runs = tt;
      left = p.1;
      row = refl;
      at = refl;
      shows = shows_as (length_so_far (length p.0) [] [] ∙ sym (length-replicate {A = Row} (length p.0) [])) (λ r x a b. white r x (length p.0) (omega (arith, length-replicate {A = Row} (length p.0) [])))
          (shows_bitmap (replicate (length p.0) []) (rw (length-replicate {A = Row} (length p.0) []) k) (f ∙ ap (λ (m : ℕ). bitmap_of_rows (replicate m [])) (sym p.2)));
    }
  where
    white : (r x n : ℕ) → r < n → pel_at (so_far n [] []) r x ≡ pel_at (replicate n []) r x
    white r x n h = ap (λ (row : Row). get_or row x O) (row_so_far n [] [] r h ∙ none r ∙ sym (get_or-replicate n r [] [] h))
      where
        none : (r : ℕ) → get_or (begun_rows [] []) r [] ≡ []
        none zero = refl
        none (suc r) = refl

module _ {ws : List ℤ} {i : ℕ} {pen : Pen} {o : List ℕ} (b : Begun ws i pen o) where
  no_page : {s : WordLines} → s ≡ broken → s ≡ page b.all → ⊥
  no_page p q = differ cc

  -- a word is there
  pub begun_in : i < length ws
  unfolding cut_from
  begun_in = go (dec_lt i (length ws))
    where
      go : Dec (i < length ws) → i < length ws
      go (yes h) = h
      go (no h) = absurd (no_page {s = if_allowed (cut_from (drop i ws) b.line b.done)} (rw (drop_of_length-le ws {i = i} (omega arith)) refl) b.left)

  here : drop i ws ≡ get_or ws i (pos 0) ∷ drop (i + 1) ws
  here = drop-cons ws i (pos 0) begun_in ∙ rw (add-one i) refl

  size : length o ≡ 4 + 216 * length b.all
  size = b.shows.size ∙ ap (λ (m : ℕ). 4 + 216 * m) (length_so_far (length b.all) b.done b.line)

  -- a line of no pels has no words
  no_words : (line : List ℤ) → NoZero line → length (pels_of_words line) ≡ 0 → line ≡ []
  unfolding pels_of_words
  no_words [] z e = refl
  no_words (w ∷ line) z e = absurd (omega (arith, simp (length-append, length-replicate) at e, z.0))

  pub begun_more : ends_page (get_or ws i (pos 0)) pen ≡ false → length b.done < length b.all
  unfolding joined pels_of_words
  begun_more e =
      let c = cut_to (drop i ws) b.line b.done b.all b.runs (if_allowed_lem _ _ b.left).0 in
      go c.0 c.1 c.2 (ap (λ (l : List ℤ). b.line ++ l) (sym here) ∙ c.3) b.line refl
    where
      first : {v w : ℤ} {vs ws : List ℤ} → v ∷ vs ≡ w ∷ ws → v ≡ w
      first q = cc

      go : (more : List (List ℤ)) (rest : List ℤ) → b.all ≡ b.done ++ more → b.line ++ (get_or ws i (pos 0) ∷ drop (i + 1) ws) ≡ joined more ++ rest → (line : List ℤ) → b.line ≡ line → length b.done < length b.all
      go (m ∷ more) rest p q line r = rw p (simp length-append (omega arith))
      go [] rest p q [] r =
          let w : get_or ws i (pos 0) ≡ pos 0 = first (rw r at q) in
          let z : pen.at ≡ pen.row = b.at ∙ rw r (omega arith) in
          absurd (false≢true (sym e ∙ rw w (eq-eqb pen.at pen.row z)))
      go [] rest p q (v ∷ line) r =
          let w : v ≡ pos 0 = first (rw r at q) in
          let n : NoZero (v ∷ line) = subst NoZero r b.runs in
          let z : nat_abs v ≡ 0 = ap nat_abs w in
          absurd (omega (arith, n.0, z))

  -- the words from the next on, by the present one
  left_run : (w : ℤ) → get_or ws i (pos 0) ≡ w → 0 < nat_abs w → if_allowed (cut_from (drop (i + 1) ws) (b.line ++ (w ∷ [])) b.done) ≡ page b.all
  unfolding cut_from
  left_run (pos zero) e h = absurd (omega arith)
  left_run (pos (suc n)) e h = rw (here, e) at b.left
  left_run (negsuc n) e h = rw (here, e) at b.left

  left_end : get_or ws i (pos 0) ≡ pos 0 → (v : ℤ) (line : List ℤ) → b.line ≡ v ∷ line → if_allowed (cut_from (drop (i + 1) ws) [] (b.done ++ ((v ∷ line) ∷ []))) ≡ page b.all
  unfolding cut_from
  left_end e v line r = rw (here, e, r) at b.left

  pels_fit : length (pels_of_words b.line) ≤ 1726
  pels_fit = (fits_parts b.line (cut_fits (drop i ws) b.line b.done b.all b.left)).1

  word_fits : (w : ℤ) → get_or ws i (pos 0) ≡ w → length (pels_of_words b.line) + nat_abs w ≤ 1726
  word_fits w e = go (dec_lt 0 (nat_abs w))
    where
      go : Dec (0 < nat_abs w) → length (pels_of_words b.line) + nat_abs w ≤ 1726
      go (no h) = omega (arith, pels_fit)
      go (yes h) = omega (arith, (fits_parts (b.line ++ (w ∷ [])) (cut_fits (drop (i + 1) ws) (b.line ++ (w ∷ [])) b.done b.all (left_run w e h))).1, pels_snoc b.line w)

  pub begun_room : ends_page (get_or ws i (pos 0)) pen ≡ false → (pen.at + nat_abs (get_or ws i (pos 0)) ≤ 8 * length o) × (pen.at + nat_abs (get_or ws i (pos 0)) < 2 ^ 60) × (pen.row < 2 ^ 60)
  begun_room e =
      let m = begun_more e in
      let f = word_fits (get_or ws i (pos 0)) refl in
      (omega (arith, size, b.row, b.at), omega (arith, b.row, b.at, b.few, most_small), omega (arith, b.row, b.few, most_small))

  run_next : {p : List ℕ} (w : ℤ) → get_or ws i (pos 0) ≡ w → 0 < nat_abs w → length b.done < length b.all → SetIfBlack (num (colour_of w)) pen.at (pen.at + nat_abs w) o p →
      Begun ws (i + 1) (record { row = pen.row; at = pen.at + nat_abs w }) p
  run_next {p} w e h m k =
      record {
        all = b.all;
        said = b.said;
        few = b.few;
        done = b.done;
        line = b.line ++ (w ∷ []);
        runs = no_zero_snoc b.line w b.runs h;
        left = left_run w e h;
        row = b.row;
        at = omega (arith, b.at, pels_snoc b.line w);
        shows = go (colour_of w) refl k;
      }
    where
      go : (c : Bit) → colour_of w ≡ c → SetIfBlack (num c) pen.at (pen.at + nat_abs w) o p → Shows (so_far (length b.all) b.done (b.line ++ (w ∷ []))) p
      go O c k =
          subst (Shows (so_far (length b.all) b.done (b.line ++ (w ∷ [])))) (sym (k.white refl))
          (shows_as (length_so_far (length b.all) b.done (b.line ++ (w ∷ [])) ∙ sym (length_so_far (length b.all) b.done b.line)) (white_more (length b.all) b.done b.line w m c) b.shows)
      go I c k = shows_inked b.shows (omega (arith, word_fits w e)) (omega (arith, b.row, b.at)) refl (k.black refl) (inked_more (length b.all) b.done b.line w m c)

  end_next : {p : List ℕ} → get_or ws i (pos 0) ≡ pos 0 → ends_page (pos 0) pen ≡ false → p ≡ o → Begun ws (i + 1) (record { row = pen.row + 1728; at = pen.row + 1728 }) p
  unfolding pels_of_words
  end_next {p} e f q = go b.line refl
    where
      go : (line : List ℤ) → b.line ≡ line → Begun ws (i + 1) (record { row = pen.row + 1728; at = pen.row + 1728 }) p
      go [] r = let z : pen.at ≡ pen.row = b.at ∙ rw r (omega arith) in absurd (false≢true (sym f ∙ eq-eqb pen.at pen.row z))
      go (v ∷ line) r =
          record {
            all = b.all;
            said = b.said;
            few = b.few;
            done = b.done ++ ((v ∷ line) ∷ []);
            line = [];
            runs = tt;
            left = left_end e v line r;
            row = simp length-append (omega (arith, b.row));
            at = omega arith;
            shows = rw q (shows_done (length b.all) b.done (v ∷ line) (rw r at b.shows));
          }

  pub begun_next : {p : List ℕ} → ends_page (get_or ws i (pos 0)) pen ≡ false → SetIfBlack (num (colour_of (get_or ws i (pos 0)))) pen.at (pen.at + nat_abs (get_or ws i (pos 0))) o p →
      Begun ws (i + 1) (moved pen (get_or ws i (pos 0))) p
  begun_next {p} e k = go (get_or ws i (pos 0)) refl e k
    where
      go : (w : ℤ) → get_or ws i (pos 0) ≡ w → ends_page w pen ≡ false → SetIfBlack (num (colour_of w)) pen.at (pen.at + nat_abs w) o p → Begun ws (i + 1) (moved pen w) p
      go (pos zero) q f k = end_next q f (k.white refl)
      go (pos (suc n)) q f k = run_next (pos (suc n)) q (omega arith) (begun_more e) k
      go (negsuc n) q f k = run_next (negsuc n) q (omega arith) (begun_more e) k

  -- the page is drawn
  pub begun_end : ends_page (get_or ws i (pos 0)) pen ≡ true → o ≡ page_of (lines_of_words ws)
  unfolding cut_from
  begun_end e = go (get_or ws i (pos 0)) refl e
    where
      inner : {x y : List (List ℤ)} → page x ≡ page y → x ≡ y
      inner q = cc

      drawn : b.done ≡ b.all → b.line ≡ [] → o ≡ page_of (lines_of_words ws)
      drawn p q = rw b.said (shown (map row_of b.all) (rw (length-map b.all row_of) b.few) (whole_rows b.all (rw (p, q) at b.shows)))

      go : (w : ℤ) → get_or ws i (pos 0) ≡ w → ends_page w pen ≡ true → o ≡ page_of (lines_of_words ws)
      go (pos (suc n)) q f = absurd (false≢true f)
      go (negsuc n) q f = absurd (false≢true f)
      go (pos zero) q f =
          let z : pen.at ≡ pen.row = eqb-true pen.at pen.row f in
          let l : b.line ≡ [] = no_words b.line b.runs (omega (arith, b.at)) in
          let m : b.done ≡ b.all = inner (if_allowed_lem _ _ (rw (here, q, l) at b.left)).0 in
          drawn m l
