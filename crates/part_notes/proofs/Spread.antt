-- Entries are laid one after the other, and say the columns of their steps. Assumes nothing.
use mathlib.Core.Path.{◌≡◌, refl, sym, ap}
use mathlib.Core.List.{List, [], ◌∷◌, ◌++◌, map}
use Prim.Native.Nat.{ℕ, zero, suc, ◌+◌, ◌*◌, ◌/◌, ◌%◌, ◌<◌}
use native.Mathlib.Numerals.{add-one}
use native.Mathlib.Omega.{arith}
use lib.ListN.{length, drop, replicate, get_or, length-append, length-replicate}
use lib.Seq.{drop-length}
use Rattle.octets.specs.Bits.{value}
use Rattle.state.specs.declared.State.{State}
use Rattle.state.specs.declared.State.TheVariants.{Solid as solid}
use Rattle.state.specs.Pels.{pels_of}
use Rattle.state.proofs.States.{pels_lt}
use Rattle.diagram.specs.Diagram.{Step, move, word, lays, columns}
use Rattle.part_notes.specs.Notes.{entry_of, spread}

-- ---- entry by entry

pub spread_at : (es : List ℕ) (i : ℕ) → i < length es → spread (drop i es) ≡ replicate (get_or es i 0 / 4) (get_or es i 0 % 4) ++ spread (drop (suc i) es)
unfolding spread
spread_at [] i h = absurd (omega arith)
spread_at (e ∷ es) zero h = refl
spread_at (e ∷ es) (suc i) h = spread_at es i (omega arith)

pub lay_length : (es : List ℕ) (i x : ℕ) → i < length es → x ≡ get_or es i 0 → length (spread (drop i es)) ≡ x / 4 + length (spread (drop (i + 1) es))
lay_length es i x h e =
    rw (e, add-one i, spread_at es i h, length-append (replicate (get_or es i 0 / 4) (get_or es i 0 % 4)) (spread (drop (suc i) es)), length-replicate (get_or es i 0 / 4) (get_or es i 0 % 4)) refl

pub lay_first : (es : List ℕ) (i : ℕ) {x : ℕ} → i < length es → x ≡ get_or es i 0 → spread (drop i es) ≡ replicate (x / 4) (x % 4) ++ spread (drop (i + 1) es)
lay_first es i h e = rw (e, add-one i) (spread_at es i h)

pub laid : (es : List ℕ) (i : ℕ) → i ≡ length es → spread (drop i es) ≡ []
unfolding spread
laid es i h = rw (h, drop-length es) refl

-- ---- entries of steps

spread_entry : (x : Step) → replicate (entry_of x / 4) (entry_of x % 4) ≡ map pels_of (lays x)
unfolding lays
spread_entry (move a b) = let h = pels_lt b in
    let q : (4 * 1 + pels_of b) / 4 ≡ 1 = omega arith in
    let r : (4 * 1 + pels_of b) % 4 ≡ pels_of b = omega arith in
    rw (q, r) refl
spread_entry (word s w) = let h = pels_lt (solid s) in
    let q : (4 * value w + pels_of (solid s)) / 4 ≡ value w = omega arith in
    let r : (4 * value w + pels_of (solid s)) % 4 ≡ pels_of (solid s) = omega arith in
    rw (q, r) (sym (mapped (value w) (solid s)))
  where
    mapped : (n : ℕ) (t : State) → map pels_of (replicate n t) ≡ replicate n (pels_of t)
    mapped zero t = refl
    mapped (suc n) t = ap (λ (ys : List ℕ). pels_of t ∷ ys) (mapped n t)

pub spread_steps : (ss : List Step) → spread (map entry_of ss) ≡ map pels_of (columns ss)
unfolding spread columns
spread_steps [] = refl
spread_steps (x ∷ ss) = rw (spread_entry x, spread_steps ss) (joined (lays x) (columns ss))
  where
    joined : (xs ys : List State) → map pels_of xs ++ map pels_of ys ≡ map pels_of (xs ++ ys)
    joined [] ys = refl
    joined (x ∷ xs) ys = ap (λ (zs : List ℕ). pels_of x ∷ zs) (joined xs ys)
