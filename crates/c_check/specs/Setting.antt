-- The check setting that the C calls are lent, as five numbers. Assumes nothing.
use Rattle.std.specs.Prelude.{Bool, cond, ◌&&◌, List, ℕ, eqb, ltb, get_or}
use Rattle.refusal.specs.declared.Reason.TheVariants.{RequestNotAllowed}
use Rattle.refusal.specs.Number.{number_of}
use Rattle.register.specs.declared.BitOrder.{BitOrder}
use Rattle.register.specs.declared.BitOrder.TheVariants.{LowFirst, HighFirst}
use Rattle.register.specs.declared.Check.{Check}
use Rattle.c_refusal.specs.Returned.{Returned}

-- 0 where the check's bits are sent low bit first, 1 where high bit first
unfoldable pub order_of : ℕ → BitOrder
order_of n = cond (eqb n 0) LowFirst HighFirst

-- generator, start, first bit, 1 where checks are compared, and the order of their bits
abbrev pub check_setting_of : List ℕ → Check
check_setting_of c = record { generator = get_or c 0 0; start = get_or c 1 0; first = get_or c 2 0; compare = eqb (get_or c 3 0) 1; order = order_of (get_or c 4 0) }

-- whether numbers say a check setting: the fourth and the fifth are 0 or 1. Which settings are allowed is judged by the call behind
abbrev pub is_setting : List ℕ → Bool
is_setting c = ltb (get_or c 3 0) 2 && ltb (get_or c 4 0) 2

-- what a call returns that takes such numbers: refused by 20 where they say none
abbrev pub if_check : List ℕ → List ℕ → List ℕ → Returned ℕ → Returned ℕ
if_check c o answer x = cond (is_setting c) x (number_of RequestNotAllowed, o, answer)
