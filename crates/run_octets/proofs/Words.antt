-- Laws of words and their octets. Assumes nothing.
use mathlib.Core.Path.{◌≡◌, refl, sym, ap, ap₂, ◌∙◌}
use mathlib.Core.List.{List, [], ◌∷◌, ◌++◌}
use Prim.Native.Nat.{ℕ, suc, ◌+◌, ◌-◌, ◌*◌, ◌/◌, ◌%◌, ◌<◌, ◌≤◌}
use native.Mathlib.Numerals.{add-one}
use native.Mathlib.Omega.{arith}
use borrow.Author.Tests.{lt-ltb, le-ltb}
use lib.IntN.{ℤ, pos, negsuc}
use lib.ListN.{length, get_or, set, drop, length-drop, drop_of_length-le}
use lib.Seq.{drop-cons}
use Rattle.basics.specs.Placed.{placed}
use Rattle.basics.proofs.Placed.{placed_one, placed_two}
use Rattle.basics.proofs.Writing.{Writing, writing_room, writing_on}
use Rattle.run_octets.specs.Octets.{word_number, octets_of_word, octets_of_words, numbered_word, words_of_octets}
use Rattle.run_octets.specs.Laws.{Word, WordsBack, OctetsInParts, WordsInParts}

-- ---- one word

pub numbered_low : {n : ℕ} → n < 32768 → pos n ≡ numbered_word n
unfolding numbered_word
numbered_low {n} h = rw (lt-ltb n 32768 h) refl

pub numbered_high : {n : ℕ} → 32768 ≤ n → negsuc (65535 - n) ≡ numbered_word n
unfolding numbered_word
numbered_high {n} h = rw (le-ltb n 32768 h) refl

word_back : (w : ℤ) → Word w → numbered_word (word_number w % 256 + 256 * (word_number w / 256)) ≡ w
word_back (pos n) h = let e : n % 256 + 256 * (n / 256) ≡ n = omega arith in rw e (sym (numbered_low h))
word_back (negsuc n) h =
    let e : (65535 - n) % 256 + 256 * ((65535 - n) / 256) ≡ 65535 - n = omega arith in
    let f : 65535 - (65535 - n) ≡ n = omega arith in
    rw e (sym (numbered_high {n = 65535 - n} (omega arith)) ∙ ap negsuc f)

pub words_back : WordsBack
unfolding octets_of_words words_of_octets
words_back [] h rest = refl
words_back (w ∷ ws) h rest = ap₂ (λ (v : ℤ) (vs : List ℤ). v ∷ vs) (word_back w h.0) (words_back ws h.1 rest)

pub octets_in_parts : OctetsInParts
unfolding octets_of_words
octets_in_parts [] vs = refl
octets_in_parts (w ∷ ws) vs = ap (λ (s : List ℕ). octets_of_word w ++ s) (octets_in_parts ws vs)

pub words_in_parts : WordsInParts
unfolding words_of_octets
words_in_parts [] rest e = refl
words_in_parts (a ∷ []) rest e = absurd (omega arith)
words_in_parts (a ∷ b ∷ octets) rest e = ap (λ (ws : List ℤ). numbered_word (a + 256 * b) ∷ ws) (words_in_parts octets rest (omega arith))

-- ---- from word i on

pub length_octets : (ws : List ℤ) → length (octets_of_words ws) ≡ 2 * length ws
unfolding octets_of_words
length_octets [] = refl
length_octets (w ∷ ws) = omega (arith, length_octets ws)

pub length_words : (s : List ℕ) → length (words_of_octets s) ≡ length s / 2
unfolding words_of_octets
length_words [] = refl
length_words (a ∷ []) = refl
length_words (a ∷ b ∷ s) = omega (arith, length_words s)

pub octets_first : (ws : List ℤ) (i : ℕ) → i < length ws → octets_of_words (drop i ws) ≡ octets_of_word (get_or ws i (pos 0)) ++ octets_of_words (drop (i + 1) ws)
unfolding octets_of_words
octets_first ws i h = rw (drop-cons ws i (pos 0) h, add-one i) refl

pub octets_none : (ws : List ℤ) (i : ℕ) → length ws ≤ i → octets_of_words (drop i ws) ≡ []
unfolding octets_of_words
octets_none ws i h = rw (drop_of_length-le ws {i = i} h) refl

pub words_first : (s : List ℕ) (i : ℕ) → i < length s / 2 →
    words_of_octets (drop (2 * i) s) ≡ (numbered_word (get_or s (2 * i) 0 + 256 * get_or s (2 * i + 1) 0) ∷ []) ++ words_of_octets (drop (2 * (i + 1)) s)
unfolding words_of_octets
words_first s i h =
    let e : 2 * (i + 1) ≡ suc (suc (2 * i)) = omega arith in
    rw (drop-cons s (2 * i) 0 (omega arith), drop-cons s (suc (2 * i)) 0 (omega arith), add-one (2 * i), e) refl

pub words_none : (s : List ℕ) (i : ℕ) → length s / 2 ≤ i → words_of_octets (drop (2 * i) s) ≡ []
words_none s i h = go (words_of_octets (drop (2 * i) s)) (length_words (drop (2 * i) s))
  where
    go : (ws : List ℤ) → length ws ≡ length (drop (2 * i) s) / 2 → ws ≡ []
    go [] e = refl
    go (w ∷ ws) e = absurd (omega (arith, length-drop (2 * i) s))

-- ---- one word more written

module _ (ws : List ℤ) {all o p : List ℕ} {i : ℕ} (h : i < length ws) (w : Writing 0 all o (2 * i) (octets_of_words (drop i ws)) p) where
  pub octets_room : 2 * i + 1 < length p
  octets_room = omega (arith, writing_room w (octets_of_word (get_or ws i (pos 0))) (octets_of_words (drop (i + 1) ws)) (octets_first ws i h))

  pub octets_on : {v : ℕ} → v ≡ word_number (get_or ws i (pos 0)) → Writing 0 all o (2 * (i + 1)) (octets_of_words (drop (i + 1) ws)) (set (set p (2 * i) (v % 256)) (2 * i + 1) (v / 256))
  octets_on {v} e =
      writing_on w (octets_of_word (get_or ws i (pos 0))) (octets_of_words (drop (i + 1) ws)) (octets_first ws i h) (omega arith)
      (placed_two (2 * i) (v % 256) (v / 256) p octets_room ∙ ap (λ (n : ℕ). placed (2 * i) (n % 256 ∷ n / 256 ∷ []) p) e)

module _ (s : List ℕ) {all o p : List ℤ} {i : ℕ} (h : i < length s / 2) (w : Writing 0 all o i (words_of_octets (drop (2 * i) s)) p) where
  pub words_room : i < length p
  words_room = omega (arith, writing_room w (numbered_word (get_or s (2 * i) 0 + 256 * get_or s (2 * i + 1) 0) ∷ []) (words_of_octets (drop (2 * (i + 1)) s)) (words_first s i h))

  pub words_on : {v : ℤ} → v ≡ numbered_word (get_or s (2 * i) 0 + 256 * get_or s (2 * i + 1) 0) → Writing 0 all o (i + 1) (words_of_octets (drop (2 * (i + 1)) s)) (set p i v)
  words_on {v} e =
      writing_on w (numbered_word (get_or s (2 * i) 0 + 256 * get_or s (2 * i + 1) 0) ∷ []) (words_of_octets (drop (2 * (i + 1)) s)) (words_first s i h) refl
      (placed_one i v p words_room ∙ ap (λ (x : ℤ). placed i (x ∷ []) p) e)
