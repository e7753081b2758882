-- The columns of a page, found in its bitmap; how many of a solid state come next is known by the columns passed and the one that differs.
-- Assumes nothing.
use mathlib.Core.Path.{◌≡◌, sym, ap, ◌∙◌}
use mathlib.Core.List.{List, [], ◌∷◌}
use Prim.Native.Nat.{ℕ, zero, suc, ◌+◌, ◌-◌, ◌*◌, ◌/◌, ◌%◌, ◌<◌, ◌≤◌, min}
use native.Mathlib.Decide.{dec_lt}
use native.Mathlib.Omega.{arith}
use lib.ListN.{length, get_or, drop, length-drop}
use lib.Seq.{get_or-drop}
use borrow.Author.Tests.{eq-eqb, ne_eqb}
use Rattle.state.specs.declared.Solid.{Solid}
use Rattle.state.specs.declared.Solid.TheVariants.{WW}
use Rattle.state.specs.declared.State.{State}
use Rattle.state.specs.declared.State.TheVariants.{Solid as solid}
use Rattle.state.specs.Pels.{pels_of}
use Rattle.bitmap.specs.Form.{columns_of, column_at}
use Rattle.bitmap_find.specs.Found.{FirstChange}
use Rattle.bitmap.proofs.Taken.{length_columns_of, column_is}
use Rattle.units.specs.Units.{ahead}
use Rattle.units.specs.Found.{Page}

-- ---- how many come next

ahead_most : (s : Solid) (cs : List State) (most r : ℕ) → r ≤ most → r ≤ length cs → ((k : ℕ) → k < r → pels_of (get_or cs k (solid WW)) ≡ pels_of (solid s)) →
    (r < most → r < length cs → pels_of (get_or cs r (solid WW)) ≡ pels_of (solid s) → ⊥) → r ≡ min most (ahead s cs)
unfolding ahead
ahead_most s [] most r h l f g = omega arith
ahead_most s (c ∷ cs) zero r h l f g = omega arith
ahead_most s (c ∷ cs) (suc most) zero h l f g = rw (ne_eqb (pels_of c) (pels_of (solid s)) (g (omega arith) (omega arith))) (omega arith)
ahead_most s (c ∷ cs) (suc most) (suc r) h l f g =
    let e : r ≡ min most (ahead s cs) = ahead_most s cs most r (omega arith) (omega arith) (λ k m. f (suc k) (omega arith)) (λ m o. g (omega arith) (omega arith)) in
    rw (eq-eqb (pels_of c) (pels_of (solid s)) (f 0 (omega arith))) (omega arith)

-- ---- columns of a page

-- the columns from `at` up to i have these pels
abbrev pub Passed : List ℕ → ℕ → ℕ → ℕ → Type 0
Passed bm v at i = (k : ℕ) → at ≤ k → k < i → pels_of (get_or (columns_of bm) k (solid WW)) ≡ v

pub passed_none : (bm : List ℕ) (v at : ℕ) → Passed bm v at at
passed_none bm v at k h l = absurd (omega arith)

module _ {bm : List ℕ} {n : ℕ} (p : Page bm n) where
  pub page_columns : length (columns_of bm) ≡ n
  page_columns = length_columns_of bm p.even ∙ sym p.count

  column_at_lem : (q x : ℕ) → x < 1726 → 1726 * q + x < n → column_at bm (4 + 432 * q) (4 + 432 * q + 216) x ≡ pels_of (get_or (columns_of bm) (1726 * q + x) (solid WW))
  column_at_lem q x h l =
      let d : (1726 * q + x) / 1726 ≡ q = omega arith in
      let m : (1726 * q + x) % 1726 ≡ x = omega arith in
      rw (d, m) at (column_is bm (1726 * q + x) p.even (omega (arith, p.count)))

  module _ {v to y : ℕ} (i : ℕ) (a : FirstChange bm (4 + 432 * (i / 1726)) (4 + 432 * (i / 1726) + 216) v (i % 1726) to y) (few : to ≤ 1726) (fits : i + to ≤ n + i % 1726) where
    pub passed_more : (at : ℕ) → Passed bm v at i → Passed bm v at (i + (y - i % 1726))
    passed_more at f k h l = go (dec_lt k i)
      where
        go : Dec (k < i) → pels_of (get_or (columns_of bm) k (solid WW)) ≡ v
        go (yes m) = f k h m
        go (no m) =
            let z : 1726 * (i / 1726) + (k - 1726 * (i / 1726)) ≡ k = omega arith in
            let b : k - 1726 * (i / 1726) < y = omega (arith, a.low) in
            let e : _ = sym (column_at_lem (i / 1726) (k - 1726 * (i / 1726)) (omega (arith, a.high)) (omega (arith, a.high))) ∙ a.same (k - 1726 * (i / 1726)) (omega arith) b in
            rw z at e

    pub passed_stop : y < to → pels_of (get_or (columns_of bm) (i + (y - i % 1726)) (solid WW)) ≡ v → ⊥
    passed_stop h e =
        let z : i + (y - i % 1726) ≡ 1726 * (i / 1726) + y = omega (arith, a.low) in
        a.stop h (column_at_lem (i / 1726) y (omega arith) (omega arith) ∙ (rw z at e))

  -- so many, where a column differs, or the page's end or the most is reached
  pub ahead_is : (s : Solid) (v at i most : ℕ) → v ≡ pels_of (solid s) → Passed bm v at i → at ≤ i → i ≤ n → i ≤ at + most →
      (i < at + most → i < n → pels_of (get_or (columns_of bm) i (solid WW)) ≡ v → ⊥) → i - at ≡ min most (ahead s (drop at (columns_of bm)))
  ahead_is s v at i most q f h l m g =
      let c = page_columns in
      let d = length-drop at (columns_of bm) in
      ahead_most s (drop at (columns_of bm)) most (i - at) (omega arith) (omega arith)
      (λ k o. ap pels_of (get_or-drop at (columns_of bm) k (solid WW)) ∙ f (at + k) (omega arith) (omega arith) ∙ q)
      (λ o u e. let z : at + (i - at) ≡ i = omega arith in g (omega arith) (omega arith) (rw z at (sym (ap pels_of (get_or-drop at (columns_of bm) (i - at) (solid WW))) ∙ e ∙ sym q)))
