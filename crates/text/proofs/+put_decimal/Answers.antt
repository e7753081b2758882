-- `text::put_decimal` meets its contract: where there are more digits than one, those of the tenth are written, and then the last one. Assumes nothing.
use mathlib.Core.Path.{refl, ap, ◌∙◌}
use mathlib.Core.List.{[], ◌∷◌}
use Prim.Native.Nat.{ℕ, ◌%◌}
use native.Mathlib.Omega.{arith}
use Rattle.basics.proofs.Writing.{Left, left_all, left_rest, left_on, left_end}
use Rattle.text.specs.Text.{digit, decimal}
use Rattle.text.proofs.Digits.{decimal_small, decimal_big, big_length}
use Rattle.text.proofs.+put_decimal.Goals as goal
use Rattle.text.proofs.+put_decimal.Goals.{Joined-n-ge10, then-n-ge10, else-n-ge10}

pub put_decimal-requires : goal.put_decimal-requires
put_decimal-requires t c = let l : _ = big_length _ c.if-n-ge10.true in (omega arith, omega arith)

-- the last digit is left
last : (t : ℕ) (c : Joined-n-ge10 t) → Left (decimal c.args.n) c.args.out.now (digit (c.args.n % 10) ∷ []) c.if-n-ge10.out
last t c = elim c.if-n-ge10.branch [
  | then-n-ge10 w ↦ rw w.out-is (left_on (left_all c.args.out.now c.requires (decimal_big _ w.if-n-ge10.true)) _ refl w.put_decimal.ensures)
  | else-n-ge10 w ↦ rw w.out-is (left_all c.args.out.now c.requires (decimal_small _ w.if-n-ge10.false ∙ ap (λ (d : ℕ). digit d ∷ []) (omega arith)))
]

pub put-requires : goal.put-requires
put-requires t c = left_rest (last t (goal.at.put-requires t c).Joined-n-ge10)

pub returns : goal.returns
returns t c = left_end (last t (goal.at.returns t c).Joined-n-ge10) c.put.ensures
