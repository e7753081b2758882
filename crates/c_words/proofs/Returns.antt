-- What the C calls on run words return, from what the calls behind them promise. Assumes nothing.
use mathlib.Core.List.{List, [], ◌∷◌}
use mathlib.Core.Path.{◌≡◌, refl}
use Prim.Native.Nat.{ℕ}
use lib.IntN.{ℤ}
use Rattle.refusal.specs.declared.Refusal.{Refusal}
use Rattle.words.specs.declared.Extent.{Extent}
use Rattle.words.specs.Calls.{words_of_bitmap, bitmap_of_words}
use Rattle.c_refusal.specs.Returned.{refusal_code}
use Rattle.c_words.specs.RunWords.{exported_words, exported_bitmap}
use Rattle.std.specs.Prelude.{Result, Ok, Err}
use Rattle.refusal.specs.Reply.{reply_of}

-- ---- words of a bitmap

module _ (bm : List ℕ) (o : List ℤ) {r : Result ℕ Refusal} {p : List ℤ} (e : (reply_of r, p) ≡ words_of_bitmap bm o) where
  pub words_listed : (answer : List ℕ) {n : ℕ} → r ≡ Ok n → (0, p, n ∷ []) ≡ exported_words bm o answer
  unfolding exported_words
  words_listed answer f = rw (← e, f) refl

  pub words_refused : (answer : List ℕ) {f : Refusal} {n : ℕ} → r ≡ Err f → n ≡ refusal_code f → (n, p, answer) ≡ exported_words bm o answer
  unfolding exported_words
  words_refused answer f g = rw (← e, f, g) refl

-- ---- bitmap of words

module _ (ws : List ℤ) (o : List ℕ) {r : Result Extent Refusal} {p : List ℕ} (e : (reply_of r, p) ≡ bitmap_of_words ws o) where
  pub bitmap_drawn : (answer : List ℕ) {x : Extent} → r ≡ Ok x → (0, p, x.octets ∷ x.words ∷ []) ≡ exported_bitmap ws o answer
  unfolding exported_bitmap
  bitmap_drawn answer f = rw (← e, f) refl

  pub bitmap_refused : (answer : List ℕ) {f : Refusal} {n : ℕ} → r ≡ Err f → n ≡ refusal_code f → (n, p, answer) ≡ exported_bitmap ws o answer
  unfolding exported_bitmap
  bitmap_refused answer f g = rw (← e, f, g) refl
