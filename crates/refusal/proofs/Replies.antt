-- Laws of replies: what is delivered with room and without, and the place of a refusal. Assumes nothing.
use mathlib.Core.Path.{◌≡◌, refl, sym, ap, ◌∙◌}
use mathlib.Core.Bool.{Bool, true, false, cond}
use mathlib.Core.List.{List}
use Prim.Native.Nat.{ℕ, ◌^◌, ◌≤◌, ◌<◌}
use native.Mathlib.Omega.{arith}
use borrow.Author.Tests.{le-leb, lt-leb}
use lib.Dec.{leb}
use lib.ListN.{length}
use Rattle.basics.specs.Placed.{at_front}
use Rattle.basics.proofs.Apart.{differ}
use Rattle.std.specs.Prelude.{Result, Ok, Err}
use Rattle.refusal.specs.declared.Reason.{Reason}
use Rattle.refusal.specs.declared.Fault.{Fault}
use Rattle.refusal.specs.declared.Refusal.{Refusal}
use Rattle.refusal.specs.Fault.{at_record}
use Rattle.refusal.specs.Reply.{Reply, gives, refuses_at, refuses, refuses_by, Outcome, SmallPlace, delivered, if_valid}

module _ {B A : Type 0} (v : B) (k : ℕ) (xs o : List A) where
  pub with_room : length xs ≤ length o → (gives v, at_front xs o) ≡ delivered v k xs o
  unfolding delivered
  with_room h = rw (le-leb (length xs) (length o) h) refl

  pub no_room : length o < length xs → (refuses 16 k, o) ≡ delivered v k xs o
  unfolding delivered
  no_room h = rw (lt-leb (length xs) (length o) h) refl

-- the place of what is delivered, and of what is judged first
pub delivered_place : {B A : Type 0} (v : B) (k : ℕ) (xs o : List A) → k < 2 ^ 40 → SmallPlace (delivered v k xs o).0
unfolding delivered
delivered_place {B} {A} v k xs o h = go (leb (length xs) (length o))
  where
    go : (t : Bool) → SmallPlace (cond {A = Outcome B A} t (gives v, at_front xs o) (refuses 16 k, o)).0
    go true = tt
    go false = (h, omega arith)

pub valid_place : {B A : Type 0} (j : Result Unit Reason) (x : Outcome B A) (o : List A) → SmallPlace x.0 → SmallPlace (if_valid j x o).0
valid_place (Ok _) x o h = h
valid_place (Err reason) x o h = (omega arith, omega arith)

-- the reply of a refusal, and of one whose reply is known, once its fault is known
pub refused_with : {B : Type 0} {r : Refusal} {f g : Fault} {k : ℕ} → r ≡ at_record f k → f ≡ g → refuses_by {B = B} r ≡ refuses_by (at_record g k)
refused_with e h = rw (e, h) refl

pub refusal_of : {B : Type 0} {x : Reply B} {f g : Fault} {k : ℕ} → x ≡ refuses_by (at_record f k) → f ≡ g → x ≡ refuses_by (at_record g k)
refusal_of {k} e h = e ∙ ap (λ (y : Fault). refuses_by (at_record y k)) h

-- what was accepted was delivered: there was room, and the output is as it says
pub record Accepted {B A : Type 0} (v w : B) (xs o p : List A) : Type 0 where
  pub value_is : w ≡ v
  pub output : p ≡ at_front xs o
  pub room : leb (length xs) (length o) ≡ true

pub accepted : {B A : Type 0} (v w : B) (k : ℕ) (xs o p : List A) → delivered v k xs o ≡ (gives w, p) → Accepted v w xs o p
unfolding delivered
accepted {B} {A} v w k xs o p e = go (leb (length xs) (length o)) refl e
  where
    inside : gives v ≡ gives w → w ≡ v
    inside q = cc

    go : (t : Bool) → leb (length xs) (length o) ≡ t → cond {A = Outcome B A} t (gives v, at_front xs o) (refuses 16 k, o) ≡ (gives w, p) → Accepted v w xs o p
    go true f q = record { value_is = inside (ap (λ (x : Outcome B A). x.0) q); output = sym (ap (λ (x : Outcome B A). x.1) q); room = f }
    go false f q = let z = ap (λ (x : Outcome B A). x.0) q in differ cc

-- a refusal is no acceptance
pub not_accepted : {B : Type 0} {v : B} {n k b : ℕ} → refuses_at n k b ≡ gives v → ⊥
not_accepted q = differ cc

-- refusals by the same reply have the same number, record and bit
pub same_number : {B : Type 0} {n m k j b d : ℕ} → ◌≡◌ {A = Reply B} (refuses_at n k b) (refuses_at m j d) → (n ≡ m) × (k ≡ j) × (b ≡ d)
same_number q = (cc, cc, cc)
