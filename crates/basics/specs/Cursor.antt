-- Items written from the front of a slice on. Assumes nothing.
use Rattle.std.specs.Prelude.{List, ℕ, ◌≡◌, ◌+◌, ◌≤◌, length}
use Rattle.basics.specs.Placed.{placed}
use Rattle.basics.specs.declared.Cursor.{Cursor}

-- so many items more have room
abbrev pub HasRoom : {A : Type 0} → ℕ → Cursor A → Type 0
HasRoom n out = out.at + n ≤ length out.items.now

-- xs stand where the next item went, and the next one goes behind them; all else is as it was, and the slice is the same one
pub record Writes {A : Type 0} (xs : List A) (before after : Cursor A) : Type 0 where
  pub at : after.at ≡ before.at + length xs
  pub items : after.items.now ≡ placed before.at xs before.items.now
  pub same : after.items.ghost_name ≡ before.items.ghost_name
