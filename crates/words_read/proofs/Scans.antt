-- Words judged one by one are judged by specs/Words: a line's pels and last colour tell whether its next word or its end keeps the rule, and a line that breaks it stays broken. Assumes nothing.
use mathlib.Core.Bool.{Bool, true, false, cond, false≢true}
use mathlib.Core.Path.{◌≡◌, refl, sym, ap, subst, ◌∙◌}
use mathlib.Core.List.{List, [], ◌∷◌, ◌++◌}
use Prim.Native.Nat.{ℕ, zero, suc, ◌+◌, ◌≤◌, ◌<◌}
use native.Mathlib.Numerals.{add-one}
use native.Mathlib.Omega.{arith}
use borrow.Author.Tests.{ne_eqb, leb-true}
use lib.Dec.{leb, eqb}
use lib.IntN.{ℤ, pos, negsuc, nat_abs}
use lib.ListN.{length, get_or, drop, length-append, drop_of_length-le}
use lib.Seq.{drop-cons}
use Rattle.octets.specs.Bits.{Bit, O, I}
use Rattle.basics.proofs.Apart.{differ}
use Rattle.words_read.specs.declared.Count.{Count}
use Rattle.words_read.specs.declared.Line.{Line}
use Rattle.words_read.specs.declared.Colour.{Colour}
use Rattle.words_read.specs.declared.Colour.TheVariants.{White, Black}
use Rattle.words_read.specs.declared.WordEffect.{WordEffect}
use Rattle.words_read.specs.declared.WordEffect.TheVariants.{Run, EndOfLine, EndOfPage}
use Rattle.words.specs.Words.{WordLines, colour_of, pels_of_words, unlike, alternates, ends_black, is_one, fits, line_allowed, all_allowed, joined, broken, page, cut_from, if_allowed, lines_of_words}
use Rattle.words_read.specs.Scan.{empty_line, ending_behind, ending, is_last, going, next_of, chosen, scan, counted}
use Rattle.words.proofs.Rows.{either, both_both, fits_parts, NoZero}
use Rattle.words.proofs.Cuts.{no_zero_snoc}
use Rattle.words.proofs.Begun.{pels_cons, pels_snoc, fits_none, unfit, unfit_snoc}
use Rattle.std.specs.Prelude.{Option, Some, None}

-- ---- a line so far, and one word more

-- how specs/Scan says a colour, and the colour of a line's last word
abbrev pub tone : Bit → Colour
tone O = White
tone I = Black

unfoldable pub last_of : List ℤ → Option Colour
last_of [] = None
last_of (v ∷ []) = Some (tone (colour_of v))
last_of (v ∷ w ∷ ws) = last_of (w ∷ ws)

-- what is kept of a line so far
abbrev pub line_of : List ℤ → Line
line_of line = record { pels = length (pels_of_words line); last = last_of line }

last_snoc : (line : List ℤ) (w : ℤ) → last_of (line ++ (w ∷ [])) ≡ Some (tone (colour_of w))
unfolding last_of
last_snoc [] w = refl
last_snoc (v ∷ []) w = refl
last_snoc (u ∷ v ∷ ws) w = last_snoc (v ∷ ws) w

alternates_snoc : (line : List ℤ) (w : ℤ) → alternates (line ++ (w ∷ [])) ≡ cond (is_last (last_of line) (tone (colour_of w))) false (alternates line)
unfolding alternates last_of
alternates_snoc [] (pos n) = refl
alternates_snoc [] (negsuc n) = refl
alternates_snoc (pos m ∷ []) (pos n) = refl
alternates_snoc (pos m ∷ []) (negsuc n) = refl
alternates_snoc (negsuc m ∷ []) (pos n) = refl
alternates_snoc (negsuc m ∷ []) (negsuc n) = refl
alternates_snoc (u ∷ v ∷ ws) w = rw (alternates_snoc (v ∷ ws) w) (go (unlike (colour_of u) (colour_of v)) (is_last (last_of (v ∷ ws)) (tone (colour_of w))) (alternates (v ∷ ws)))
  where
    go : (a e b : Bool) → cond a (cond e false b) false ≡ cond e false (cond a b false)
    go true e b = refl
    go false true b = refl
    go false false b = refl

-- a run may stand next if the line with it keeps the rule so far
pub going_is : (line : List ℤ) (w : ℤ) → fits line ≡ true →
    going (line_of line) (tone (colour_of w)) (nat_abs w) ≡ cond (fits (line ++ (w ∷ []))) (Some (Run (line_of (line ++ (w ∷ []))))) None
unfolding fits going
going_is line w f =
    rw (alternates_snoc line w, (fits_parts line f).0, pels_snoc line w, last_snoc line w)
    (go (is_last (last_of line) (tone (colour_of w))) (leb (length (pels_of_words line) + nat_abs w) 1726) (Some (Run (record { pels = length (pels_of_words line) + nat_abs w; last = Some (tone (colour_of w)) }))))
  where
    go : (e b : Bool) (r : Option WordEffect) → cond e None (cond b r None) ≡ cond (cond (cond e false true) b false) r None
    go true b r = refl
    go false true r = refl
    go false false r = refl

-- ---- the end of a line

alone : (t : Bool) → cond t true false ≡ t
alone true = refl
alone false = refl

-- where a line of some words ends
end_behind : (v : ℤ) (ws : List ℤ) (n : ℕ) → ending_behind (last_of (v ∷ ws)) n ≡ cond (ends_black (v ∷ ws)) (Some EndOfLine) (cond (eqb n 1) (Some EndOfLine) None)
unfolding last_of ends_black
end_behind (pos m) [] n = refl
end_behind (negsuc m) [] n = refl
end_behind v (w ∷ ws) n = end_behind w ws n

two_words : (v w : ℤ) (ws : List ℤ) → NoZero (v ∷ w ∷ ws) → eqb (length (pels_of_words (v ∷ w ∷ ws))) 1 ≡ false
two_words v w ws z = ne_eqb (length (pels_of_words (v ∷ w ∷ ws))) 1 (λ e. omega (arith, pels_cons v (w ∷ ws), pels_cons w ws))

-- a line whose last word is white is the all-white one if it is one pel
one_pel : (line : List ℤ) → NoZero line → ends_black line ≡ false → eqb (length (pels_of_words line)) 1 ≡ is_one line
unfolding pels_of_words ends_black
one_pel [] z b = refl
one_pel (pos zero ∷ ws) z b = absurd (omega arith)
one_pel (pos (suc zero) ∷ []) z b = refl
one_pel (pos (suc zero) ∷ w ∷ ws) z b = two_words (pos 1) w ws z
one_pel (pos (suc (suc n)) ∷ ws) z b = ne_eqb (length (pels_of_words (pos (suc (suc n)) ∷ ws))) 1 (λ e. omega arith)
one_pel (negsuc n ∷ []) z b = absurd (false≢true (sym b))
one_pel (negsuc n ∷ w ∷ ws) z b = two_words (negsuc n) w ws z

-- a line may end if it is allowed
pub ending_is : (v : ℤ) (ws : List ℤ) → NoZero (v ∷ ws) → fits (v ∷ ws) ≡ true → ending (line_of (v ∷ ws)) ≡ cond (line_allowed (v ∷ ws)) (Some EndOfLine) None
unfolding ending line_allowed
ending_is v ws z f = rw (end_behind v ws, f) (go (ends_black (v ∷ ws)) refl)
  where
    go : (b : Bool) → ends_black (v ∷ ws) ≡ b →
        cond b (Some EndOfLine) (cond (eqb (length (pels_of_words (v ∷ ws))) 1) (Some EndOfLine) None) ≡ cond (cond (is_one (v ∷ ws)) true b) (Some EndOfLine) None
    go true q = rw (either (is_one (v ∷ ws)))
    go false q = rw (one_pel (v ∷ ws) z q, alone (is_one (v ∷ ws)))

-- ---- what breaks the rule

all_snoc : (lines : List (List ℤ)) (line : List ℤ) → all_allowed (lines ++ (line ∷ [])) ≡ cond (all_allowed lines) (line_allowed line) false
unfolding all_allowed
all_snoc [] line = alone (line_allowed line)
all_snoc (l ∷ lines) line = rw (all_snoc lines line) (both_both (line_allowed l) (all_allowed lines) (line_allowed line))

-- behind a line that is not allowed, whatever follows
cut_behind : (ws line : List ℤ) (lines : List (List ℤ)) → all_allowed lines ≡ false → if_allowed (cut_from ws line lines) ≡ broken
unfolding cut_from
cut_behind [] line lines b = refl
cut_behind (pos zero ∷ ws) [] lines b = rw b
cut_behind (pos zero ∷ ws) (v ∷ line) lines b = cut_behind ws [] (lines ++ ((v ∷ line) ∷ [])) (rw (all_snoc lines (v ∷ line), b))
cut_behind (pos (suc n) ∷ ws) line lines b = cut_behind ws (line ++ (pos (suc n) ∷ [])) lines b
cut_behind (negsuc n ∷ ws) line lines b = cut_behind ws (line ++ (negsuc n ∷ [])) lines b

-- in a line that breaks the rule so far, whatever follows
cut_within : (ws line : List ℤ) (lines : List (List ℤ)) → fits line ≡ false → all_allowed lines ≡ true → if_allowed (cut_from ws line lines) ≡ broken
unfolding cut_from
cut_within [] line lines f a = refl
cut_within (pos zero ∷ ws) [] lines f a = absurd (false≢true (sym f ∙ fits_none))
cut_within (pos zero ∷ ws) (v ∷ line) lines f a = cut_behind ws [] (lines ++ ((v ∷ line) ∷ [])) (rw (all_snoc lines (v ∷ line), a, unfit (v ∷ line) f))
cut_within (pos (suc n) ∷ ws) line lines f a = cut_within ws (line ++ (pos (suc n) ∷ [])) lines (unfit_snoc line (pos (suc n)) f) a
cut_within (negsuc n ∷ ws) line lines f a = cut_within ws (line ++ (negsuc n ∷ [])) lines (unfit_snoc line (negsuc n) f) a

-- so the line is fit where the words come to a page
pub cut_fits : (ws line : List ℤ) (lines all : List (List ℤ)) → if_allowed (cut_from ws line lines) ≡ page all → fits line ≡ true
cut_fits ws line lines all e = go (all_allowed lines) (fits line) refl refl
  where
    no_page : if_allowed (cut_from ws line lines) ≡ broken → ⊥
    no_page b = let q : broken ≡ page all = sym b ∙ e in differ cc

    go : (a f : Bool) → all_allowed lines ≡ a → fits line ≡ f → fits line ≡ true
    go a true p q = q
    go true false p q = absurd (no_page (cut_within ws line lines q p))
    go false false p q = absurd (no_page (cut_behind ws line lines p))

-- ---- word by word

length_snoc : (lines : List (List ℤ)) (line : List ℤ) → length (joined (lines ++ (line ∷ []))) ≡ length (joined lines) + length line + 1
unfolding joined
length_snoc [] line = simp length-append (omega arith)
length_snoc (l ∷ lines) line = simp (length-append, length_snoc lines line) (omega arith)

-- a run is scanned, and a line's end
scan_run : (ws line : List ℤ) (lines : List (List ℤ)) (n : ℕ) (p e : Option Count) (t : Bool) → fits line ≡ t → all_allowed lines ≡ true →
    (fits line ≡ true → scan ws (line_of line) (length lines) (n + 1) ≡ counted (if_allowed (cut_from ws line lines))) →
    chosen (cond t (Some (Run (line_of line))) None) p e (λ m. scan ws m (length lines) (n + 1)) ≡ counted (if_allowed (cut_from ws line lines))
scan_run ws line lines n p e true f a h = h f
scan_run ws line lines n p e false f a h = ap counted (sym (cut_within ws line lines f a))

scan_end : (ws line : List ℤ) (lines : List (List ℤ)) (p e : Option Count) (r : Line → Option Count) (t : Bool) → line_allowed line ≡ t → all_allowed lines ≡ true →
    (all_allowed (lines ++ (line ∷ [])) ≡ true → e ≡ counted (if_allowed (cut_from ws [] (lines ++ (line ∷ []))))) →
    chosen (cond t (Some EndOfLine) None) p e r ≡ counted (if_allowed (cut_from ws [] (lines ++ (line ∷ []))))
scan_end ws line lines p e r true q a h = h (rw (all_snoc lines line, a, q))
scan_end ws line lines p e r false q a h = ap counted (sym (cut_behind ws [] (lines ++ (line ∷ [])) (rw (all_snoc lines line, a, q))))

-- from a line so far on, behind allowed lines and n words
scan_cut : (ws line : List ℤ) (lines : List (List ℤ)) (n : ℕ) → NoZero line → fits line ≡ true → all_allowed lines ≡ true → n + 1 ≡ length (joined lines) + length line →
    scan ws (line_of line) (length lines) n ≡ counted (if_allowed (cut_from ws line lines))
unfolding cut_from scan ending last_of pels_of_words
scan_cut [] line lines n z f a h = refl
scan_cut (pos zero ∷ ws) [] lines n z f a h = let e : n + 1 ≡ length (joined lines) = omega arith in rw (a, e)
scan_cut (pos zero ∷ ws) (v ∷ line) lines n z f a h =
    let next = lines ++ ((v ∷ line) ∷ []) in
    let l = length-append lines ((v ∷ line) ∷ []) in
    let k = length_snoc lines (v ∷ line) in
    rw (ending_is v line z f) (scan_end ws (v ∷ line) lines _ _ _ (line_allowed (v ∷ line)) refl a (λ b. rw l at (scan_cut ws [] next (n + 1) tt fits_none b (omega arith))))
scan_cut (pos (suc m) ∷ ws) line lines n z f a h =
    let next = line ++ (pos (suc m) ∷ []) in
    let l = length-append line (pos (suc m) ∷ []) in
    let y = no_zero_snoc line (pos (suc m)) z (omega arith) in
    rw (going_is line (pos (suc m)) f) (scan_run ws next lines n _ _ (fits next) refl a (λ g. scan_cut ws next lines (n + 1) y g a (omega arith)))
scan_cut (negsuc m ∷ ws) line lines n z f a h =
    let next = line ++ (negsuc m ∷ []) in
    let l = length-append line (negsuc m ∷ []) in
    let y = no_zero_snoc line (negsuc m) z (omega arith) in
    rw (going_is line (negsuc m) f) (scan_run ws next lines n _ _ (fits next) refl a (λ g. scan_cut ws next lines (n + 1) y g a (omega arith)))

-- The scan of words says the lines and the words that they say.
pub scan_said : (ws : List ℤ) → counted (lines_of_words ws) ≡ scan ws empty_line 0 0
unfolding lines_of_words joined all_allowed last_of pels_of_words
scan_said ws = sym (scan_cut ws [] [] 0 tt fits_none refl refl)

-- ---- from word i on

module _ (ws : List ℤ) (i : ℕ) (l : Line) (lines : ℕ) where
  scan_at : i < length ws → scan (drop i ws) l lines i
      ≡ chosen (next_of l (get_or ws i (pos 0))) (Some (record { lines = lines; words = i + 1 })) (scan (drop (i + 1) ws) empty_line (lines + 1) (i + 1)) (λ m. scan (drop (i + 1) ws) m lines (i + 1))
  unfolding scan
  scan_at h = rw (drop-cons ws i (pos 0) h, add-one i) refl

  pub scan_broken : i < length ws → next_of l (get_or ws i (pos 0)) ≡ None → scan (drop i ws) l lines i ≡ None
  scan_broken h e = scan_at h ∙ rw e refl

  pub scan_page : i < length ws → next_of l (get_or ws i (pos 0)) ≡ Some EndOfPage → scan (drop i ws) l lines i ≡ Some (record { lines = lines; words = i + 1 })
  scan_page h e = scan_at h ∙ rw e refl

  pub scan_line_lem : {m : Line} {n : ℕ} → i < length ws → next_of l (get_or ws i (pos 0)) ≡ Some EndOfLine → m ≡ empty_line → n ≡ lines + 1 → scan (drop (i + 1) ws) m n (i + 1) ≡ scan (drop i ws) l lines i
  scan_line_lem h e f g = sym (scan_at h ∙ rw (e, f, g) refl)

  pub scan_on : {m : Line} {n : ℕ} → i < length ws → next_of l (get_or ws i (pos 0)) ≡ Some (Run m) → n ≡ lines → scan (drop (i + 1) ws) m n (i + 1) ≡ scan (drop i ws) l lines i
  scan_on h e g = sym (scan_at h ∙ rw (e, g) refl)

  pub scan_none : length ws ≤ i → scan (drop i ws) l lines i ≡ None
  unfolding scan
  scan_none h = rw (drop_of_length-le ws {i = i} h) refl

-- a line that goes on has at most 1726 pels
abbrev pels_in : Option WordEffect → ℕ
pels_in (Some (Run m)) = m.pels
pels_in (Some EndOfLine) = 0
pels_in (Some EndOfPage) = 0
pels_in None = 0

ending_small : (l : Line) → pels_in (ending l) ≤ 1726
unfolding ending
ending_small l = go l.last
  where
    ended : (t : Bool) → pels_in (cond t (Some EndOfLine) None) ≤ 1726
    ended true = omega arith
    ended false = omega arith

    go : (a : Option Colour) → pels_in (ending_behind a l.pels) ≤ 1726
    go None = omega arith
    go (Some Black) = omega arith
    go (Some White) = ended (eqb l.pels 1)

going_small : (l : Line) (c : Colour) (n : ℕ) → pels_in (going l c n) ≤ 1726
unfolding going
going_small l c n = go (is_last l.last c) (leb (l.pels + n) 1726) refl
  where
    go : (a b : Bool) → leb (l.pels + n) 1726 ≡ b → pels_in (cond a None (cond b (Some (Run (record { pels = l.pels + n; last = Some c }))) None)) ≤ 1726
    go true b e = omega arith
    go false true e = leb-true (l.pels + n) 1726 e
    go false false e = omega arith

next_small : (l : Line) (w : ℤ) → pels_in (next_of l w) ≤ 1726
next_small l (pos zero) = ending_small l
next_small l (pos (suc n)) = going_small l White (suc n)
next_small l (negsuc n) = going_small l Black (suc n)

pub run_small : (l : Line) (w : ℤ) {m : Line} → next_of l w ≡ Some (Run m) → m.pels ≤ 1726
run_small l w e = subst (λ (k : ℕ). k ≤ 1726) (ap pels_in e) (next_small l w)

-- ---- the count of what words say

-- what holds of a page's own count holds of the count that was answered
pub by_count : (s : WordLines) {n : Count} (P : WordLines → Count → Type 0) → ((all : List (List ℤ)) → P (page all) (record { lines = length all; words = length (joined all) })) → counted s ≡ Some n → P s n
by_count broken P f e = differ cc
by_count (page all) {n} P f e = let q : record { lines = length all; words = length (joined all) } ≡ n = cc in subst (P (page all)) q (f all)
