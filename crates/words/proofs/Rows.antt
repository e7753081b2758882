-- A line's words and its row give each other back: a row is the pels of its runs and white behind them, and words that alternate and end black are the runs of their pels. Assumes nothing.
use mathlib.Core.Bool.{Bool, true, false, cond, false≢true}
use mathlib.Core.Logic.{◌⊎◌, inl, inr}
use mathlib.Core.Path.{◌≡◌, refl, sym, ap, ◌∙◌}
use mathlib.Core.List.{List, [], ◌∷◌, ◌++◌, append_assoc, append-nil}
use Prim.Native.Nat.{ℕ, zero, suc, ◌+◌, ◌-◌, ◌≤◌, ◌<◌}
use native.Mathlib.Nat.{add-zero, add-suc, suc-add}
use native.Mathlib.Numerals.{one-add}
use native.Mathlib.Omega.{arith}
use borrow.Author.Tests.{leb-true, le-leb}
use lib.Dec.{leb, lit<}
use lib.IntN.{ℤ, pos, negsuc, nat_abs}
use lib.ListN.{length, replicate, length-append, length-replicate}
use Rattle.octets.specs.Bits.{Bit, O, I}
use Rattle.bitmap.specs.Form.{Row}
use Rattle.bitmap.proofs.Taken.{if_both}
use Rattle.words.specs.Words.{word_of, runs, runs_of, or_one, line_words, colour_of, pels_of_words, row_of, unlike, alternates, ends_black, is_one, fits, line_allowed}

-- ---- runs

-- pels of the run's own colour make it longer
pub runs_run : (c : Bit) (n k : ℕ) (rest : Row) → runs c n (replicate k c ++ rest) ≡ runs c (n + k) rest
unfolding runs
runs_run c n zero rest = rw (add-zero n)
runs_run O n (suc k) rest = rw (add-suc n k, ← suc-add n k) (runs_run O (suc n) k rest)
runs_run I n (suc k) rest = rw (add-suc n k, ← suc-add n k) (runs_run I (suc n) k rest)

first_run : (c : Bit) (k : ℕ) (rest : Row) → runs_of (replicate (suc k) c ++ rest) ≡ runs c (suc k) rest
unfolding runs_of
first_run c k rest = runs_run c 1 k rest ∙ ap (λ (n : ℕ). runs c n rest) (one-add k)

-- a pel of the other colour ends it
pub runs_on : (c : Bit) (k : ℕ) (p : Bit) (ps : Row) → unlike c p ≡ true → runs_of (replicate (suc k) c ++ (p ∷ ps)) ≡ word_of c (suc k) ∷ runs_of (p ∷ ps)
unfolding runs runs_of
runs_on O k O ps u = absurd (false≢true u)
runs_on O k I ps u = first_run O k (I ∷ ps)
runs_on I k O ps u = first_run I k (O ∷ ps)
runs_on I k I ps u = absurd (false≢true u)

pub runs_end_black : (k : ℕ) → runs_of (replicate (suc k) I) ≡ word_of I (suc k) ∷ []
unfolding runs
runs_end_black k = ap runs_of (sym (append-nil (replicate (suc k) I))) ∙ first_run I k []

pub runs_end_white : (k : ℕ) → runs_of (replicate k O) ≡ []
unfolding runs runs_of
runs_end_white zero = refl
runs_end_white (suc k) = ap runs_of (sym (append-nil (replicate (suc k) O))) ∙ first_run O k []

-- ---- from a row to words and back

-- words whose pels and white behind them are a row
abbrev Padded : List ℤ → Row → Type 0
Padded ws row = (k : ℕ) × (pels_of_words ws ++ replicate k O ≡ row)

padded_length : (ws : List ℤ) (row : Row) (p : Padded ws row) → length (pels_of_words ws) + p.0 ≡ length row
padded_length ws row p = simp (length-append, length-replicate) at (ap length p.1)

padded_row : (ws : List ℤ) (row : Row) → Padded ws row → length row ≡ 1726 → row_of ws ≡ row
unfolding row_of
padded_row ws row p h =
    let e : 1726 - length (pels_of_words ws) ≡ p.0 = omega (arith, padded_length ws row p) in
    rw e p.1

one_on : (c : Bit) (n : ℕ) (ps : Row) → replicate n c ++ (c ∷ ps) ≡ c ∷ (replicate n c ++ ps)
one_on c zero ps = refl
one_on c (suc n) ps = ap (λ (r : Row). c ∷ r) (one_on c n ps)

padded_runs : (c : Bit) (n : ℕ) (ps : Row) → Padded (runs c (suc n) ps) (replicate (suc n) c ++ ps)
unfolding runs pels_of_words
padded_runs O n [] = (suc n, sym (append-nil (replicate (suc n) O)))
padded_runs I n [] = (0, append-nil (replicate (suc n) I ++ []))
padded_runs O n (O ∷ ps) = rw (one_on O (suc n) ps) (padded_runs O (suc n) ps)
padded_runs I n (I ∷ ps) = rw (one_on I (suc n) ps) (padded_runs I (suc n) ps)
padded_runs O n (I ∷ ps) = let p = padded_runs I 0 ps in
    (p.0, append_assoc (replicate (suc n) O) (pels_of_words (runs I 1 ps)) (replicate p.0 O) ∙ ap (λ (r : Row). replicate (suc n) O ++ r) p.1)
padded_runs I n (O ∷ ps) = let p = padded_runs O 0 ps in
    (p.0, append_assoc (replicate (suc n) I) (pels_of_words (runs O 1 ps)) (replicate p.0 O) ∙ ap (λ (r : Row). replicate (suc n) I ++ r) p.1)

-- an all-white line is 1: the other pels are the white behind it
padded_one : (ws : List ℤ) (row : Row) → 0 < length row → Padded ws row → Padded (or_one ws) row
unfolding pels_of_words
padded_one [] row h p = go p.0 p.1
  where
    go : (k : ℕ) → replicate k O ≡ row → Padded (pos 1 ∷ []) row
    go zero e = absurd (omega (arith, ap length e))
    go (suc k) e = (k, e)
padded_one (w ∷ ws) row h p = p

padded_words : (row : Row) → 0 < length row → Padded (line_words row) row
unfolding runs_of
padded_words [] h = absurd (omega arith)
padded_words (p ∷ ps) h = padded_one (runs p 1 ps) (p ∷ ps) h (padded_runs p 0 ps)

pub row_back : (row : Row) → length row ≡ 1726 → row_of (line_words row) ≡ row
row_back row h = padded_row (line_words row) row (padded_words row (omega arith)) h

-- ---- the rule of a line

pub either : (t : Bool) → cond t true true ≡ true
either true = refl
either false = refl

pub both_both : (a b c : Bool) → cond a (cond b c false) false ≡ cond (cond a b false) c false
both_both true b c = refl
both_both false b c = refl

pub fits_parts : (line : List ℤ) → fits line ≡ true → (alternates line ≡ true) × (length (pels_of_words line) ≤ 1726)
unfolding fits
fits_parts line e =
    let h = if_both (alternates line) (leb (length (pels_of_words line)) 1726) e in
    (h.0, leb-true (length (pels_of_words line)) 1726 h.1)

pub parts_fit : (line : List ℤ) → alternates line ≡ true → length (pels_of_words line) ≤ 1726 → fits line ≡ true
unfolding fits
parts_fit line a h = rw a (le-leb (length (pels_of_words line)) 1726 h)

is_one_lem : (line : List ℤ) → is_one line ≡ true → line ≡ pos 1 ∷ []
is_one_lem [] e = absurd (false≢true e)
is_one_lem (pos zero ∷ ws) e = absurd (false≢true e)
is_one_lem (pos (suc zero) ∷ []) e = refl
is_one_lem (pos (suc zero) ∷ w ∷ ws) e = absurd (false≢true e)
is_one_lem (pos (suc (suc n)) ∷ ws) e = absurd (false≢true e)
is_one_lem (negsuc n ∷ ws) e = absurd (false≢true e)

-- an allowed line is the all-white one, or ends black
abbrev Kept : List ℤ → Type 0
Kept line = (line ≡ pos 1 ∷ []) ⊎ ((fits line ≡ true) × (ends_black line ≡ true))

allowed : (line : List ℤ) → line_allowed line ≡ true → Kept line
unfolding line_allowed
allowed line e = go (is_one line) refl e
  where
    go : (t : Bool) → is_one line ≡ t → cond t true (cond (fits line) (ends_black line) false) ≡ true → Kept line
    go true q e = inl (is_one_lem line q)
    go false q e = inr (if_both (fits line) (ends_black line) e)

pub allowed_fits : (line : List ℤ) → line_allowed line ≡ true → fits line ≡ true
unfolding fits alternates pels_of_words
allowed_fits line e = go (allowed line e)
  where
    go : Kept line → fits line ≡ true
    go (inl q) = rw q
    go (inr p) = p.0

pub row_length : (line : List ℤ) → line_allowed line ≡ true → length (row_of line) ≡ 1726
unfolding row_of
row_length line e = simp (length-append, length-replicate) (omega (arith, (fits_parts line (allowed_fits line e)).1))

-- no word is 0
abbrev pub NoZero : List ℤ → Type 0
NoZero [] = Unit {0}
NoZero (w ∷ ws) = (0 < nat_abs w) × NoZero ws

-- and there is one
abbrev pub Runs : List ℤ → Type 0
Runs line = (0 < length line) × NoZero line

-- ---- a row's words keep the rule

other : Bit → Bit
other O = I
other I = O

-- words that alternate and of which the last is black
abbrev Ruled : List ℤ → Type 0
Ruled line = (alternates line ≡ true) × (ends_black line ≡ true)

-- a row's words, behind one of the other colour
ruled_runs : (c : Bit) (m n : ℕ) (ps : Row) → Ruled (word_of (other c) (suc m) ∷ runs c (suc n) ps)
unfolding runs alternates ends_black other
ruled_runs O m n [] = (refl, refl)
ruled_runs I m n [] = (refl, refl)
ruled_runs O m n (O ∷ ps) = ruled_runs O m (suc n) ps
ruled_runs I m n (I ∷ ps) = ruled_runs I m (suc n) ps
ruled_runs O m n (I ∷ ps) = ruled_runs I n 0 ps
ruled_runs I m n (O ∷ ps) = ruled_runs O n 0 ps

allowed_ruled : (v : ℤ) (ws : List ℤ) → Ruled (v ∷ ws) → length (pels_of_words (or_one ws)) ≤ 1726 → line_allowed (or_one ws) ≡ true
unfolding line_allowed alternates ends_black
allowed_ruled v [] r h = refl
allowed_ruled v (w ∷ ws) r h =
    let a = if_both (unlike (colour_of v) (colour_of w)) (alternates (w ∷ ws)) r.0 in
    rw (parts_fit (w ∷ ws) a.1 h, r.1) (either (is_one (w ∷ ws)))

pub words_allowed : (row : Row) → length row ≤ 1726 → line_allowed (line_words row) ≡ true
unfolding runs_of line_allowed
words_allowed [] h = refl
words_allowed (p ∷ ps) h =
    let q = padded_words (p ∷ ps) (omega arith) in
    allowed_ruled (word_of (other p) 1) (runs p 1 ps) (ruled_runs p 0 0 ps) (omega (arith, padded_length (line_words (p ∷ ps)) (p ∷ ps) q))

no_zero_runs : (c : Bit) (n : ℕ) (ps : Row) → NoZero (runs c (suc n) ps)
unfolding runs
no_zero_runs O n [] = tt
no_zero_runs I n [] = (omega arith, tt)
no_zero_runs O n (O ∷ ps) = no_zero_runs O (suc n) ps
no_zero_runs I n (I ∷ ps) = no_zero_runs I (suc n) ps
no_zero_runs O n (I ∷ ps) = (omega arith, no_zero_runs I 0 ps)
no_zero_runs I n (O ∷ ps) = (omega arith, no_zero_runs O 0 ps)

runs_one : (ws : List ℤ) → NoZero ws → Runs (or_one ws)
runs_one [] h = (lit< tt, (lit< tt, tt))
runs_one (w ∷ ws) h = (omega arith, h)

pub words_runs : (row : Row) → Runs (line_words row)
unfolding runs_of
words_runs [] = runs_one [] tt
words_runs (p ∷ ps) = runs_one (runs p 1 ps) (no_zero_runs p 0 ps)

few_runs : (c : Bit) (n : ℕ) (ps : Row) → length (runs c n ps) ≤ suc (length ps)
unfolding runs
few_runs O n [] = omega arith
few_runs I n [] = omega arith
few_runs O n (O ∷ ps) = omega (arith, few_runs O (suc n) ps)
few_runs I n (I ∷ ps) = omega (arith, few_runs I (suc n) ps)
few_runs O n (I ∷ ps) = omega (arith, few_runs I 1 ps)
few_runs I n (O ∷ ps) = omega (arith, few_runs O 1 ps)

-- a row has at most a word a pel
pub fewer_words : (row : Row) → 0 < length row → length (line_words row) ≤ length row
unfolding runs_of
fewer_words [] h = absurd (omega arith)
fewer_words (p ∷ ps) h = go (runs p 1 ps) (few_runs p 1 ps)
  where
    go : (ws : List ℤ) → length ws ≤ suc (length ps) → length (or_one ws) ≤ suc (length ps)
    go [] l = omega arith
    go (w ∷ ws) l = l

pub few_words : (row : Row) → length (line_words row) ≤ suc (length row)
unfolding runs_of
few_words [] = lit< tt
few_words (p ∷ ps) = omega (arith, fewer_words (p ∷ ps) (omega arith))

-- ---- from words to a row and back

word_back : (w : ℤ) → word_of (colour_of w) (nat_abs w) ≡ w
word_back (pos n) = refl
word_back (negsuc n) = refl

next_run : (c d : Bit) (m n : ℕ) (ps : Row) → 0 < m → 0 < n → unlike c d ≡ true → runs_of (replicate m c ++ (replicate n d ++ ps)) ≡ word_of c m ∷ runs_of (replicate n d ++ ps)
next_run c d zero n ps h l u = absurd (omega arith)
next_run c d (suc m) zero ps h l u = absurd (omega arith)
next_run c d (suc m) (suc n) ps h l u = runs_on c m d (replicate n d ++ ps) u

-- the last word, black, and the white behind it
last_run : (n k : ℕ) → runs_of (replicate (suc n) I ++ replicate k O) ≡ negsuc n ∷ []
last_run n zero = ap runs_of (append-nil (replicate (suc n) I)) ∙ runs_end_black n
last_run n (suc k) = runs_on I n O (replicate k O) refl ∙ ap (λ (ws : List ℤ). negsuc n ∷ ws) (runs_end_white (suc k))

runs_back : (line : List ℤ) (k : ℕ) → NoZero line → Ruled line → runs_of (pels_of_words line ++ replicate k O) ≡ line
unfolding alternates ends_black pels_of_words
runs_back [] k z r = absurd (false≢true r.1)
runs_back (pos n ∷ []) k z r = absurd (false≢true r.1)
runs_back (negsuc n ∷ []) k z r = ap runs_of (append_assoc (replicate (suc n) I) [] (replicate k O)) ∙ last_run n k
runs_back (v ∷ w ∷ ws) k z r =
    let u = if_both (unlike (colour_of v) (colour_of w)) (alternates (w ∷ ws)) r.0 in
    let p : Row = pels_of_words ws ++ replicate k O in
    let m : pels_of_words (w ∷ ws) ++ replicate k O ≡ replicate (nat_abs w) (colour_of w) ++ p = append_assoc (replicate (nat_abs w) (colour_of w)) (pels_of_words ws) (replicate k O) in
    ap runs_of (append_assoc (replicate (nat_abs v) (colour_of v)) (pels_of_words (w ∷ ws)) (replicate k O) ∙ ap (λ (q : Row). replicate (nat_abs v) (colour_of v) ++ q) m)
    ∙ next_run (colour_of v) (colour_of w) (nat_abs v) (nat_abs w) p z.0 z.1.0 u.0
    ∙ rw (word_back v, ← m) (ap (λ (l : List ℤ). v ∷ l) (runs_back (w ∷ ws) k z.1 (u.1, r.1)))

-- an all-white row
white_back : (k : ℕ) → line_words (O ∷ replicate k O) ≡ pos 1 ∷ []
white_back k = ap or_one (runs_end_white (suc k))

one_not : (line : List ℤ) → 0 < length line → or_one line ≡ line
one_not [] h = absurd (omega arith)
one_not (w ∷ ws) h = refl

pub words_back : (line : List ℤ) → Runs line → line_allowed line ≡ true → line_words (row_of line) ≡ line
unfolding row_of pels_of_words
words_back line r e = go (allowed line e)
  where
    go : Kept line → line_words (row_of line) ≡ line
    go (inl q) = rw q (white_back 1725)
    go (inr p) = ap or_one (runs_back line (1726 - length (pels_of_words line)) r.1 ((fits_parts line p.0).0, p.1)) ∙ one_not line r.0
