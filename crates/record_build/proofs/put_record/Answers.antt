-- `record_build::put_record` meets its contract: length and command, and the frame behind them. Assumes nothing.
use mathlib.Core.Path.{refl}
use mathlib.Core.List.{List, [], ◌∷◌}
use Prim.Native.Nat.{ℕ, ◌+◌}
use native.Mathlib.Omega.{arith}
use lib.ListN.{length}
use Rattle.basics.specs.Cursor.{HasRoom, Writes}
use Rattle.basics.specs.declared.Cursor.{Cursor}
use Rattle.basics.proofs.Writing.{room_left, Left, left_all, left_on, left_end}
use Rattle.record_build.proofs.put_record.Goals as goal

-- the length is written
fronted : (command : ℕ) (frame : List ℕ) {o p : Cursor ℕ} → HasRoom (2 + length frame) o → Writes (76 ∷ []) o p → Left (76 ∷ command ∷ frame) o (command ∷ frame) p
fronted command frame {o} h w = left_on (left_all o (omega arith) refl) (command ∷ frame) refl w

pub put-requires-2 : goal.put-requires-2
put-requires-2 c = room_left 1 (omega (arith, c.requires)) c.put.ensures

pub put_all-requires : goal.put_all-requires
put_all-requires c = let h : _ = room_left (length c.args.frame.now) (room_left _ (omega (arith, c.requires)) c.put.ensures) c.put-2.ensures in omega (arith, h)

pub returns : goal.returns
returns c = left_end (left_on (fronted c.args.command c.args.frame.now c.requires c.put.ensures) c.args.frame.now refl c.put-2.ensures) c.put_all.ensures
