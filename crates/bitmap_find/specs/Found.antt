-- What the functions that look along rows of a bitmap promise. Assumes nothing.
use Rattle.std.specs.Prelude.{◌≡◌, List, ℕ, ◌+◌, ◌-◌, ◌*◌, ◌/◌, ◌%◌, ◌^◌, ◌<◌, ◌≤◌}
use Rattle.bitmap.specs.Form.{column_at}

-- column k of an octet over another, by its two pels
unfoldable pub column_in : ℕ → ℕ → ℕ → ℕ
column_in a b k = 2 * (a / 2 ^ (7 - k) % 2) + b / 2 ^ (7 - k) % 2

-- r is the first of the columns from `from` up to 8 that is not s, or 8
pub record First (a b s from r : ℕ) : Type 0 where
  pub low : from ≤ r
  pub high : r ≤ 8
  pub same : (k : ℕ) → from ≤ k → k < r → column_in a b k ≡ s
  pub stop : r < 8 → column_in a b r ≡ s → ⊥

-- r is the first of the columns from `from` up to `to` that is not s, or `to`
pub record FirstChange (bm : List ℕ) (top bottom s from to r : ℕ) : Type 0 where
  pub low : from ≤ r
  pub high : r ≤ to
  pub same : (k : ℕ) → from ≤ k → k < r → column_at bm top bottom k ≡ s
  pub stop : r < to → column_at bm top bottom r ≡ s → ⊥
