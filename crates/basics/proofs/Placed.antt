-- Laws of a list written into another. Assumes nothing.
use mathlib.Core.Path.{◌≡◌, refl, sym, ap, ◌∙◌}
use mathlib.Core.List.{List, [], ◌∷◌, ◌++◌, append_assoc, append-nil}
use Prim.Native.Nat.{ℕ, suc, ◌+◌, ◌≤◌, ◌<◌}
use native.Mathlib.Nat.{add-zero, zero-add}
use native.Mathlib.Numerals.{add-one}
use native.Mathlib.Omega.{arith}
use lib.ListN.{length, take, drop, set, length-append, length-set, length-drop, take-append-drop, drop_of_length-le}
use lib.Seq.{take-suc-set, drop-set-lt, drop-drop, length-take-le}
use Rattle.basics.specs.Placed.{at_front, placed}

pub placed_none : {A : Type 0} (n : ℕ) (o : List A) → placed n [] o ≡ o
unfolding placed
placed_none n o = rw (add-zero n) (take-append-drop n o)

-- at the front
pub placed_front : {A : Type 0} (xs o : List A) → placed 0 xs o ≡ at_front xs o
unfolding placed
placed_front xs o = rw (zero-add (length xs)) refl

-- over all
pub placed_all : {A : Type 0} (xs o : List A) → length xs ≡ length o → placed 0 xs o ≡ xs
placed_all xs o h = placed_front xs o ∙ ap (λ (r : List _). xs ++ r) (drop_of_length-le o {i = length xs} (omega arith)) ∙ append-nil xs

-- one set, and the others behind it
pub placed_set : {A : Type 0} (n : ℕ) (x : A) (xs o : List A) → n < length o → placed (n + 1) xs (set o n x) ≡ placed n (x ∷ xs) o
unfolding placed
placed_set {A = A} n x xs o h =
    let k : n < n + 1 + length xs = omega arith in
    let e : n + 1 + length xs ≡ n + suc (length xs) = omega arith in
    rw (drop-set-lt (n + 1 + length xs) o n x k, e, add-one n, take-suc-set o n x h) (append_assoc (take n o) (x ∷ []) (xs ++ drop (n + suc (length xs)) o))

-- one, and two
pub placed_one : {A : Type 0} (i : ℕ) (x : A) (o : List A) → i < length o → set o i x ≡ placed i (x ∷ []) o
placed_one i x o h = sym (placed_none (i + 1) (set o i x)) ∙ placed_set i x [] o h

pub placed_two : {A : Type 0} (i : ℕ) (x y : A) (o : List A) → i + 1 < length o → set (set o i x) (i + 1) y ≡ placed i (x ∷ y ∷ []) o
placed_two i x y o h = placed_one (i + 1) y (set o i x) (simp length-set (omega arith)) ∙ placed_set i x (y ∷ []) o (omega arith)

pub length_placed : {A : Type 0} (n : ℕ) (xs o : List A) → n + length xs ≤ length o → length (placed n xs o) ≡ length o
unfolding placed
length_placed n xs o h =
    rw (length-append (take n o) (xs ++ drop (n + length xs) o), length-append xs (drop (n + length xs) o), length-take-le n o (omega arith), length-drop (n + length xs) o)
    (omega arith)

-- one list behind the other
pub placed_append : {A : Type 0} (n : ℕ) (xs ys o : List A) → n + length xs + length ys ≤ length o → placed (n + length xs) ys (placed n xs o) ≡ placed n (xs ++ ys) o
placed_append n [] ys o h = rw (add-zero n, placed_none n o) refl
placed_append {A = A} n (x ∷ xs) ys o h =
    let e : n + length (x ∷ xs) ≡ n + 1 + length xs = omega arith in
    let s : length (set o n x) ≡ length o = length-set o n x in
    rw (← placed_set n x xs o (omega arith), e, ← placed_set n x (xs ++ ys) o (omega arith))
    (placed_append (n + 1) xs ys (set o n x) (omega arith))

-- k places from place n on written over with as many
pub placed_part : {A : Type 0} (n k : ℕ) (xs ys o : List A) → ys ≡ xs → length xs ≡ k → take n o ++ (ys ++ drop k (drop n o)) ≡ placed n xs o
unfolding placed
placed_part n k xs ys o e h = rw (drop-drop k n o, e, h) refl
