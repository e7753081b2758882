-- `vector_pages::show_laid` is safe: the page has room for each run. Assumes nothing.
use mathlib.Core.Path.{◌≡◌, refl}
use Prim.Native.Nat.{ℕ, ◌<◌}
use native.Mathlib.Omega.{arith}
use Rattle.state.specs.Pels.{state_of}
use Rattle.position.specs.declared.Position.{Position}
use Rattle.position.specs.Position.{pels_per_line, columns_before, position_after}
use Rattle.position.proofs.Positions.{count_after, column_small}
use Rattle.bitmap.specs.Laid.{Room}
use Rattle.bitmap_lay.proofs.Lays.{room_start, room_run, room_fewer}
use Rattle.bitmap.proofs.Pels.{most_some}
use Rattle.vector_pages.proofs.show_laid.Goals as goal

-- where n columns are laid
count : (p : Position) (n : ℕ) → p ≡ position_after n → (columns_before p ≡ n) × (p.column < pels_per_line)
count p n e = (rw e (count_after n), rw e (column_small n))

pub clear-requires : goal.clear-requires
clear-requires g c = (refl, omega (arith, most_some))

-- room for all columns, for those behind the first, and for those behind the third
pub lay-second-requires : goal.lay-second-requires
lay-second-requires g c =
    let none : Room (columns_before c.position_after.result) 1726 c.clear.new.out = rw (count _ _ c.position_after.ensures).0 (room_start _ 1 1726 most_some (omega arith) c.clear.ensures) in
    (room_fewer _ none (omega arith), (count _ _ c.position_after.ensures).1, omega arith)

pub lay-fourth-requires : goal.lay-fourth-requires
lay-fourth-requires g c =
    let none : Room (columns_before c.position_after.result) 1726 c.clear.new.out = rw (count _ _ c.position_after.ensures).0 (room_start _ 1 1726 most_some (omega arith) c.clear.ensures) in
    let one : Room (columns_before c.lay-second.result) 1725 c.lay-second.new.out = room_run 1 _ 1725 (state_of 2) none c.lay-second.ensures.1 (count _ _ c.lay-second.ensures.0).0 (omega arith) in
    (room_fewer _ one (omega arith), (count _ _ c.lay-second.ensures.0).1, omega arith)

pub lay-requires : goal.lay-requires
lay-requires g c =
    let none : Room (columns_before c.position_after.result) 1726 c.clear.new.out = rw (count _ _ c.position_after.ensures).0 (room_start _ 1 1726 most_some (omega arith) c.clear.ensures) in
    let one : Room (columns_before c.lay-second.result) 1725 c.lay-second.new.out = room_run 1 _ 1725 (state_of 2) none c.lay-second.ensures.1 (count _ _ c.lay-second.ensures.0).0 (omega arith) in
    let three : Room (columns_before c.lay-fourth.result) 1723 c.lay-fourth.new.out = room_run 2 _ 1723 (state_of 1) one c.lay-fourth.ensures.1 (count _ _ c.lay-fourth.ensures.0).0 (omega arith) in
    (three, (count _ _ c.lay-fourth.ensures.0).1, omega arith)
