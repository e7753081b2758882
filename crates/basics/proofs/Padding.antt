-- A list with n times x behind it, read place by place, with a default past its end. Assumes nothing.
use mathlib.Core.Path.{◌≡◌, sym, ◌∙◌}
use mathlib.Core.List.{List, ◌++◌}
use Prim.Native.Nat.{ℕ, ◌+◌, ◌-◌, ◌<◌, ◌≤◌}
use native.Mathlib.Decide.{dec_lt}
use native.Mathlib.Omega.{arith}
use lib.ListN.{length, get_or, replicate, length-append, length-replicate, get_or-replicate, get_or-append, get_or-eq_default}
use lib.Seq.{get_or-append-add}

module _ {A : Type 0} (xs : List A) (n : ℕ) where
  pub behind_new : (x d : A) (j : ℕ) → length xs ≤ j → j < length xs + n → get_or (xs ++ replicate n x) j d ≡ x
  behind_new x d j h l =
      let z : j ≡ length xs + (j - length xs) = omega arith in
      rw z (get_or-append-add xs (replicate n x) (j - length xs) d ∙ get_or-replicate n (j - length xs) x d (omega arith))

  pub behind_old : (x d : A) (j : ℕ) → (length xs ≤ j → j < length xs + n → ⊥) → get_or (xs ++ replicate n x) j d ≡ get_or xs j d
  behind_old x d j f = go (dec_lt j (length xs)) (dec_lt j (length xs + n))
    where
      go : Dec (j < length xs) → Dec (j < length xs + n) → get_or (xs ++ replicate n x) j d ≡ get_or xs j d
      go (yes h) b = get_or-append xs (replicate n x) d j h
      go (no h) (yes l) = absurd (f (omega arith) l)
      go (no h) (no l) = get_or-eq_default (xs ++ replicate n x) d (simp (length-append, length-replicate) (omega arith)) ∙ sym (get_or-eq_default xs d (omega arith))

  -- more of the default changes nothing
  pub behind_default : (d : A) (j : ℕ) → get_or (xs ++ replicate n d) j d ≡ get_or xs j d
  behind_default d j = go (dec_lt j (length xs)) (dec_lt j (length xs + n))
    where
      go : Dec (j < length xs) → Dec (j < length xs + n) → get_or (xs ++ replicate n d) j d ≡ get_or xs j d
      go (yes h) b = behind_old d d j (λ u v. omega arith)
      go (no h) (yes l) = behind_new d d j (omega arith) l ∙ sym (get_or-eq_default xs d (omega arith))
      go (no h) (no l) = behind_old d d j (λ u v. l v)
