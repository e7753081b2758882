-- Whether the last column cannot be encoded, found from the left, column by column: so it is known of a page whose columns come a run, a move or a
-- frame at a time. Assumes nothing.
use mathlib.Core.Path.{◌≡◌, refl}
use mathlib.Core.Bool.{Bool, false}
use mathlib.Core.List.{List, [], ◌∷◌}
use Prim.Native.Nat.{suc, ◌-◌, ◌≤◌}
use native.Mathlib.Omega.{arith}
use lib.ListN.{length, get_or}
use Rattle.state.specs.declared.Solid.TheVariants.{WW}
use Rattle.state.specs.declared.State.{State}
use Rattle.state.specs.declared.State.TheVariants.{Solid as solid}
use Rattle.diagram.specs.Diagram.{move, enters_mixed}
use Rattle.writer.specs.Call.{not_encodable}

-- of these columns behind the column c; `entered` says so of c
unfoldable pub not_encodable_after : Bool → State → List State → Bool
not_encodable_after entered c [] = entered
not_encodable_after entered c (d ∷ cs) = not_encodable_after (enters_mixed (move c d)) d cs

last_two : (entered : Bool) (c : State) (cs : List State) → 2 ≤ length cs → not_encodable_after entered c cs ≡ enters_mixed (move (get_or cs (length cs - 2) (solid WW)) (get_or cs (length cs - 1) (solid WW)))
unfolding not_encodable_after
last_two entered c [] h = absurd (omega arith)
last_two entered c (d ∷ []) h = absurd (omega arith)
last_two entered c (d ∷ e ∷ []) h = refl
last_two entered c (d ∷ e ∷ f ∷ cs) h =
    let r = last_two (enters_mixed (move c d)) d (e ∷ f ∷ cs) (omega arith) in
    let p : length (d ∷ e ∷ f ∷ cs) - 2 ≡ suc (length (e ∷ f ∷ cs) - 2) = omega arith in
    let q : length (d ∷ e ∷ f ∷ cs) - 1 ≡ suc (length (e ∷ f ∷ cs) - 1) = omega arith in
    rw (p, q) r

-- It is what the last two columns say; a page has no single column.
pub from_left : (cs : List State) → (length cs ≡ 1 → ⊥) → not_encodable_after false (solid WW) cs ≡ not_encodable cs
unfolding not_encodable not_encodable_after
from_left [] h = refl
from_left (d ∷ []) h = absurd (h refl)
from_left (d ∷ e ∷ cs) h = last_two false (solid WW) (d ∷ e ∷ cs) (omega arith)
