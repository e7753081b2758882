-- Lists written one behind the other: what is left to write of a list that goes to a place, and what stands already. Assumes nothing.
use mathlib.Core.Path.{◌≡◌, refl, sym, ap, ◌∙◌}
use mathlib.Core.List.{List, [], ◌++◌}
use Prim.Native.Nat.{ℕ, ◌+◌, ◌-◌, ◌≤◌}
use native.Mathlib.Nat.{add-zero}
use native.Mathlib.Omega.{arith}
use lib.ListN.{length, length-append, take, drop}
use lib.Seq.{length-take-le, drop-append_seam, take-append_seam}
use Rattle.basics.specs.Cursor.{HasRoom, Writes}
use Rattle.basics.specs.Placed.{placed}
use Rattle.basics.specs.declared.Cursor.{Cursor}
use Rattle.basics.proofs.Placed.{placed_none, placed_append, length_placed}

-- of a list that goes to place `at` of o, the part from place i on is left, and p has the rest
pub record Writing {A : Type 0} (at : ℕ) (all o : List A) (i : ℕ) (ws p : List A) : Type 0 where
  pub room : at + length all ≤ length o
  pub from : at ≤ i
  pub count : i + length ws ≡ at + length all
  pub size : length p ≡ length o
  pub same : placed i ws p ≡ placed at all o

pub writing_all : {A : Type 0} {at : ℕ} {all ws o : List A} → at + length all ≤ length o → all ≡ ws → Writing at all o at ws o
writing_all h e = record { room = h; from = omega arith; count = rw e refl; size = refl; same = rw e refl }

module _ {A : Type 0} {at i : ℕ} {all o ws p : List A} (w : Writing at all o i ws p) where
  pub writing_room : (us xs : List A) → ws ≡ us ++ xs → i + length us ≤ length p
  writing_room us xs e = omega (arith, simp length-append at (ap length e))

  pub writing_on : (us xs : List A) {q : List A} {j : ℕ} → ws ≡ us ++ xs → j ≡ i + length us → q ≡ placed i us p → Writing at all o j xs q
  writing_on us xs {q} {j} e f g =
      let l : length ws ≡ length us + length xs = simp length-append at (ap length e) in
      let n : length (placed i us p) ≡ length p = length_placed i us p (writing_room us xs e) in
      record {
        room = w.room;
        from = omega arith;
        count = omega arith;
        size = omega (arith, ap length g);
        same = rw (f, g) (placed_append i us xs p (omega arith) ∙ rw (← e) w.same);
      }

  pub writing_end : {q : List A} {j : ℕ} → j ≡ i + length ws → q ≡ placed i ws p → (j ≡ at + length all) × (q ≡ placed at all o)
  writing_end f g = (f ∙ w.count, g ∙ w.same)

  -- nothing is left
  pub writing_done : ws ≡ [] → (i ≡ at + length all) × (p ≡ placed at all o)
  writing_done e = writing_end (rw e (sym (add-zero i))) (rw e (sym (placed_none i p)))

-- nothing is written
pub writes_none : {A : Type 0} (o : Cursor A) → Writes [] o o
writes_none o = record { at = sym (add-zero o.at); items = sym (placed_none o.at o.items.now); same = refl }

-- what is written since
pub since_written : {A : Type 0} {xs : List A} {o p : Cursor A} → o.at ≤ length o.items.now → Writes xs o p → take (p.at - o.at) (drop o.at p.items.now) ≡ xs
unfolding placed
since_written {xs = xs} {o = o} {p = p} h w =
    let a : _ = w.at in
    let k : p.at - o.at ≡ length xs = omega arith in
    let front : List _ = take o.at o.items.now in
    let rest : List _ = drop (o.at + length xs) o.items.now in
    rw (k, w.items)
    (ap (λ n. take (length xs) (drop n (front ++ (xs ++ rest)))) (sym (length-take-le o.at o.items.now h)) ∙ ap (take (length xs)) (drop-append_seam front (xs ++ rest)) ∙ take-append_seam xs rest)

-- behind what is written there is the rest of the room
pub room_left : {A : Type 0} {xs : List A} {o p : Cursor A} (n : ℕ) → HasRoom (length xs + n) o → Writes xs o p → HasRoom n p
room_left {xs = xs} {o = o} n h w =
    let a : _ = w.at in
    let l : _ = length_placed o.at xs o.items.now (omega arith) in
    omega (arith, ap length w.items)

-- what is written stands in the slice f that was lent, once the cursor over it is gone
pub ended : {A : Type 0} {xs f : List A} {o p : Cursor A} → Writes xs o p → (o.items.ghost_name ≡ p.items.ghost_name → f ≡ p.items.now) → f ≡ placed o.at xs o.items.now
ended w h = h (sym w.same) ∙ w.items

-- the same of a cursor: of a list that goes where o stands, ws is left to write where p stands
pub record Left {A : Type 0} (all : List A) (o : Cursor A) (ws : List A) (p : Cursor A) : Type 0 where
  pub writing : Writing o.at all o.items.now p.at ws p.items.now
  pub same : p.items.ghost_name ≡ o.items.ghost_name

pub left_all : {A : Type 0} {all ws : List A} (o : Cursor A) → HasRoom (length all) o → all ≡ ws → Left all o ws o
left_all o h e = record { writing = writing_all h e; same = refl }

module _ {A : Type 0} {all ws : List A} {o p : Cursor A} (w : Left all o ws p) where
  pub left_room : (us xs : List A) → ws ≡ us ++ xs → HasRoom (length us) p
  left_room = writing_room w.writing

  -- there is room for all that is left
  pub left_rest : HasRoom (length ws) p
  left_rest = omega (arith, w.writing.room, w.writing.count, w.writing.size)

  pub left_on : {us : List A} (xs : List A) {q : Cursor A} → ws ≡ us ++ xs → Writes us p q → Left all o xs q
  left_on {us} xs e f = record { writing = writing_on w.writing us xs e f.at f.items; same = f.same ∙ w.same }

  pub left_end : {q : Cursor A} → Writes ws p q → Writes all o q
  left_end f = let e : _ = writing_end w.writing f.at f.items in record { at = e.0; items = e.1; same = f.same ∙ w.same }

  -- nothing is left
  pub left_done : ws ≡ [] → Writes all o p
  left_done h = let e : _ = writing_done w.writing h in record { at = e.0; items = e.1; same = w.same }
