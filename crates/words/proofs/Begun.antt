-- What breaks the rule of a line so far breaks it with every word more. Assumes nothing.
use mathlib.Core.Bool.{Bool, true, false, false≢true}
use mathlib.Core.Path.{◌≡◌, refl, sym, ap, ◌∙◌}
use mathlib.Core.List.{List, [], ◌∷◌, ◌++◌, append_assoc, append-nil}
use Prim.Native.Nat.{◌+◌}
use native.Mathlib.Omega.{arith}
use lib.IntN.{ℤ, nat_abs}
use lib.ListN.{length, replicate, length-append, length-replicate}
use Rattle.bitmap.specs.Form.{Row}
use Rattle.bitmap.proofs.Taken.{if_both}
use Rattle.words.specs.Words.{colour_of, pels_of_words, unlike, alternates, fits, line_allowed}
use Rattle.words.proofs.Rows.{fits_parts, parts_fit, allowed_fits}

pub pels_cons : (w : ℤ) (ws : List ℤ) → length (pels_of_words (w ∷ ws)) ≡ nat_abs w + length (pels_of_words ws)
unfolding pels_of_words
pels_cons w ws = simp (length-append, length-replicate)

pub pels_append : (xs ys : List ℤ) → length (pels_of_words (xs ++ ys)) ≡ length (pels_of_words xs) + length (pels_of_words ys)
unfolding pels_of_words
pels_append [] ys = omega arith
pels_append (x ∷ xs) ys = omega (arith, pels_cons x (xs ++ ys), pels_cons x xs, pels_append xs ys)

pub pels_snoc : (line : List ℤ) (w : ℤ) → length (pels_of_words (line ++ (w ∷ []))) ≡ length (pels_of_words line) + nat_abs w
unfolding pels_of_words
pels_snoc line w = omega (arith, pels_append line (w ∷ []), pels_cons w [])

-- the pels of a line with one word more
pub pels_more : (line : List ℤ) (w : ℤ) → pels_of_words (line ++ (w ∷ [])) ≡ pels_of_words line ++ replicate (nat_abs w) (colour_of w)
unfolding pels_of_words
pels_more [] w = append-nil (replicate (nat_abs w) (colour_of w))
pels_more (v ∷ line) w =
    ap (λ (l : Row). replicate (nat_abs v) (colour_of v) ++ l) (pels_more line w) ∙ sym (append_assoc (replicate (nat_abs v) (colour_of v)) (pels_of_words line) (replicate (nat_abs w) (colour_of w)))

pub fits_none : fits [] ≡ true
unfolding fits alternates pels_of_words
fits_none = refl

alternates_front : (xs ys : List ℤ) → alternates (xs ++ ys) ≡ true → alternates xs ≡ true
unfolding alternates
alternates_front [] ys e = refl
alternates_front (x ∷ []) ys e = refl
alternates_front (v ∷ w ∷ xs) ys e =
    let h = if_both (unlike (colour_of v) (colour_of w)) (alternates (w ∷ (xs ++ ys))) e in
    rw h.0 (alternates_front (w ∷ xs) ys h.1)

fits_front : (xs ys : List ℤ) → fits (xs ++ ys) ≡ true → fits xs ≡ true
fits_front xs ys e = let h = fits_parts (xs ++ ys) e in parts_fit xs (alternates_front xs ys h.0) (omega (arith, pels_append xs ys, h.1))

unless : (t : Bool) → (t ≡ true → ⊥) → t ≡ false
unless true h = absurd (h refl)
unless false h = refl

-- what breaks the rule so far is not allowed, and breaks it with one word more
pub unfit : (line : List ℤ) → fits line ≡ false → line_allowed line ≡ false
unfit line f = unless (line_allowed line) (λ e. false≢true (sym f ∙ allowed_fits line e))

pub unfit_snoc : (line : List ℤ) (w : ℤ) → fits line ≡ false → fits (line ++ (w ∷ [])) ≡ false
unfit_snoc line w f = unless (fits (line ++ (w ∷ []))) (λ e. false≢true (sym f ∙ fits_front line (w ∷ []) e))
