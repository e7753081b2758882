-- What the C call on one data part returns, from what the calls behind it promise. Assumes nothing.
use mathlib.Core.Path.{◌≡◌, refl}
use mathlib.Core.List.{List}
use Prim.Native.Nat.{ℕ, ◌≤◌, ◌<◌}
use borrow.Author.Tests.{lt-ltb, le-ltb}
use Rattle.refusal.specs.declared.Refusal.{Refusal}
use Rattle.state.specs.declared.State.{State}
use Rattle.state.specs.Pels.{state_of}
use Rattle.diagram.specs.declared.Context.{Context}
use Rattle.diagram.specs.declared.Start.{Start}
use Rattle.part_notes.specs.declared.PartReading.{PartReading}
use Rattle.part.specs.Call.{part_validity, read_part}
use Rattle.c_refusal.specs.Returned.{refusal_code}
use Rattle.c_part.specs.Part.{numbers_of, unstated, start_of, exported_part}
use Rattle.std.specs.Prelude.{Result, Ok, Err}
use Rattle.refusal.specs.Reply.{reply_of}

-- the state is that of the number
pub start_is : (state : ℕ) (c : Context) {t : State} → t ≡ state_of state → record { state = t; context = c } ≡ start_of state c
start_is state c e = rw e refl

module _ (s : List ℕ) (count state : ℕ) (c : Context) (o answer : List ℕ) where
  pub not_a_state : {a : Start} {n : ℕ} → 3 < state → a ≡ start_of state c → n ≡ unstated (part_validity s count a) → (n, o, answer) ≡ exported_part s count state c o answer
  unfolding exported_part
  not_a_state h i e = rw (lt-ltb 3 state h, e, i) refl

  module _ {a : Start} {r : Result PartReading Refusal} {p : List ℕ} (h : state ≤ 3) (i : a ≡ start_of state c) (e : (reply_of r, p) ≡ read_part s count a o) where
    pub part_read : {x : PartReading} {q : List ℕ} → r ≡ Ok x → q ≡ numbers_of x → (0, p, q) ≡ exported_part s count state c o answer
    unfolding exported_part
    part_read f g = rw (le-ltb 3 state h, ← i, ← e, f, g) refl

    pub part_refused : {f : Refusal} {n : ℕ} → r ≡ Err f → n ≡ refusal_code f → (n, p, answer) ≡ exported_part s count state c o answer
    unfolding exported_part
    part_refused f g = rw (le-ltb 3 state h, ← i, ← e, f, g) refl
