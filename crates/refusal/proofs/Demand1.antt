-- What a call owes, by the ways in which calls are put together. Assumes nothing.
use mathlib.Core.Path.{◌≡◌, refl}
use mathlib.Core.Bool.{Bool, true, false, cond}
use mathlib.Core.List.{List}
use Prim.Native.Nat.{ℕ, ◌^◌, ◌<◌}
use native.Mathlib.Omega.{arith}
use borrow.Author.Tests.{leb-true}
use lib.Dec.{leb}
use lib.ListN.{length}
use Rattle.basics.specs.Placed.{at_front}
use Rattle.refusal.specs.declared.Reason.{Reason}
use Rattle.refusal.specs.declared.Reason.TheVariants.{OutputTooShort}
use Rattle.std.specs.Prelude.{Result, Ok, Err}
use Rattle.refusal.specs.Number.{number_of}
use Rattle.refusal.specs.Fault.{GoesWith}
use Rattle.refusal.specs.Reply.{gives, refuses, Outcome, delivered, if_valid}
use Rattle.refusal.specs.Demand1.{Listed, Owed}

pub owed_refusal : {A : Type 0} (reason : Reason) (k : ℕ) (o : List A) → k < 2 ^ 40 → Listed (number_of reason) × GoesWith 0 (number_of reason) × (k < 2 ^ 40) × (o ≡ o)
owed_refusal reason k o h = ((reason, refl), (λ n. refl, omega arith), h, refl)

pub owed_delivered : {B A : Type 0} (v : B) (k : ℕ) (xs o : List A) → k < 2 ^ 40 → Owed o (delivered v k xs o)
unfolding delivered
owed_delivered {B} {A} v k xs o h = go (leb (length xs) (length o)) refl
  where
    go : (t : Bool) → leb (length xs) (length o) ≡ t → Owed o (cond {A = Outcome B A} t (gives v, at_front xs o) (refuses 16 k, o))
    go true e = (xs, leb-true (length xs) (length o) e, refl)
    go false e = owed_refusal OutputTooShort k o h

pub owed_valid : {B A : Type 0} (j : Result Unit Reason) (x : Outcome B A) (o : List A) → Owed o x → Owed o (if_valid j x o)
owed_valid (Ok _) x o h = h
owed_valid (Err reason) x o h = owed_refusal reason 0 o (omega arith)

pub owed_cond : {B A : Type 0} (t : Bool) (x y : Outcome B A) (o : List A) → Owed o x → Owed o y → Owed o (cond t x y)
owed_cond true x y o h k = h
owed_cond false x y o h k = k
