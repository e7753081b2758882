-- A list filled from the front: what holds of each place passed holds of one more. Assumes nothing.
use mathlib.Core.Path.{◌≡◌, ◌∙◌}
use mathlib.Core.List.{List}
use Prim.Native.Nat.{ℕ, ◌+◌, ◌<◌}
use native.Mathlib.Decide.{dec_lt}
use native.Mathlib.Omega.{arith}
use lib.ListN.{length, get_or, set}
use lib.Seq.{get_or-set_same, get_or-set_other}

pub filled_more : (f : ℕ → ℕ) (t : List ℕ) (i x : ℕ) → i < length t → ((k : ℕ) → k < i → get_or t k 0 ≡ f k) → x ≡ f i → (k : ℕ) → k < i + 1 → get_or (set t i x) k 0 ≡ f k
filled_more f t i x w h e k l = go (dec_lt k i)
  where
    go : Dec (k < i) → get_or (set t i x) k 0 ≡ f k
    go (yes m) = get_or-set_other t i k x 0 (omega arith) ∙ h k m
    go (no m) = let z : k ≡ i = omega arith in rw z (get_or-set_same t i x 0 w ∙ e)
