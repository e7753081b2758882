-- A position and the columns so far say the same: pair and column are quotient and remainder. Assumes nothing.
use mathlib.Core.Path.{◌≡◌, refl, sym, ap, ◌∙◌}
use native.Mathlib.Nat.{add-zero}
use native.Mathlib.Omega.{arith}
use Prim.Native.Nat.{ℕ, zero, suc, ◌+◌, ◌-◌, ◌%◌, ◌<◌}
use Rattle.position.specs.declared.Position.{Position}
use Rattle.position.specs.Position.{pels_per_line, columns_before, position_after, advanced, index_before, last_x, x_after}
use Rattle.position.specs.Laws.{ColumnsAfter, OnePosition, LastLaid, XMovesOn, PairsEnough, BitsApart}

-- pair and column say a position
pub same_position : (p q : Position) → p.pair ≡ q.pair → p.column ≡ q.column → p ≡ q
same_position p q e f = ap (λ (a : ℕ). record { pair = a; column = p.column }) e ∙ ap (λ (b : ℕ). record { pair = q.pair; column = b }) f

pub columns_after : ColumnsAfter
unfolding position_after
columns_after n = (omega arith, omega arith)

-- the number alone, for rewriting
pub count_after : (n : ℕ) → columns_before (position_after n) ≡ n
count_after n = (columns_after n).0

pub position_of : (p : Position) (n : ℕ) → p.column < pels_per_line → n ≡ columns_before p → p ≡ position_after n
unfolding position_after
position_of p n h e = same_position p (position_after n) (omega arith) (omega arith)

pub one_position : OnePosition
one_position p h = sym (position_of p (columns_before p) h refl)

-- the column before one that is not the first of its row pair
pub index_before_lem : (column : ℕ) → 0 < column → index_before column ≡ column - 1
index_before_lem zero h = omega arith
index_before_lem (suc column) h = omega arith

pub last_laid : LastLaid
unfolding position_after
last_laid = (refl, λ n. go n (suc n % pels_per_line) refl)
  where
    go : (n c : ℕ) → suc n % pels_per_line ≡ c → index_before c ≡ n % pels_per_line
    go n zero e = omega arith
    go n (suc c) e = omega arith

-- X fits in its field
pub x_small : (n : ℕ) → last_x (position_after n) < pels_per_line
x_small zero = omega (arith, last_laid.0)
x_small (suc n) = omega (arith, last_laid.1 n)

pub x_after_small : (x n : ℕ) → x_after x n < pels_per_line
unfolding x_after
x_after_small x n = omega arith

pub x_after_none : (x : ℕ) → x < pels_per_line → x_after x 0 ≡ x
unfolding x_after
x_after_none x h = omega arith

pub x_after_more : (x a b : ℕ) → x_after (x_after x a) b ≡ x_after x (a + b)
unfolding x_after
x_after_more x a b = omega arith

pub x_moves_on : XMovesOn
unfolding position_after x_after
x_moves_on p n h = go p.column ((columns_before p + n) % pels_per_line) refl refl
  where
    go : (a b : ℕ) → p.column ≡ a → (columns_before p + n) % pels_per_line ≡ b → index_before b ≡ (index_before a + n) % pels_per_line
    go zero zero e f = omega arith
    go zero (suc b) e f = omega arith
    go (suc a) zero e f = omega arith
    go (suc a) (suc b) e f = omega arith

-- the same from numbers of columns
pub x_on : (n m : ℕ) → last_x (position_after (n + m)) ≡ x_after (last_x (position_after n)) m
x_on n m = ap (λ (a : ℕ). last_x (position_after (a + m))) (sym (count_after n)) ∙ x_moves_on (position_after n) m (columns_after n).1

pub pairs_enough : PairsEnough
unfolding position_after
pairs_enough n pairs h = omega arith

pub bits_apart : BitsApart
bits_apart p q h k = (λ e. same_position p q (omega arith) (omega arith), λ e. same_position p q (omega arith) (omega arith), λ e. omega arith)

-- ---- a position advanced

pub column_small : (n : ℕ) → (position_after n).column < pels_per_line
column_small n = (columns_after n).1

pub advanced_none : (p : Position) → p.column < pels_per_line → advanced p 0 ≡ p
advanced_none p h = ap position_after (add-zero (columns_before p)) ∙ one_position p h

pub advanced_more : (p : Position) (a b c : ℕ) → c ≡ a + b → advanced (advanced p a) b ≡ advanced p c
advanced_more p a b c e = ap position_after (omega (arith, count_after (columns_before p + a)))
