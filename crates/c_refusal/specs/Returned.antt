-- What the calls of the C interface return. Assumes nothing.
use Rattle.std.specs.Prelude.{List, ◌≡◌, ℕ, ◌+◌, ◌*◌, ◌/◌, ◌%◌, ◌≤◌, length}
use Rattle.basics.specs.Placed.{at_front}
use Rattle.refusal.specs.declared.Refusal.{Refusal}
use Rattle.refusal.specs.Number.{number_of}
use Rattle.refusal.specs.Demand1.{Listed}
use Rattle.refusal.specs.Fault.{GoesWith}
use Rattle.refusal.specs.Reply.{gives, refuses_at, Outcome}

-- the returned number, the output then and the answer then
abbrev pub Returned : Type 0 → Type 0
Returned A = ℕ × List A × List ℕ

-- a number, 256 times a bit, and 2^24 times a record
abbrev pub code : ℕ → ℕ → ℕ → ℕ
code n k b = n + 256 * b + 16777216 * k

abbrev pub refusal_code : Refusal → ℕ
refusal_code f = code (number_of f.reason) f.«record» f.bit

-- what a call returns whose values are these numbers, and the answer that was: a refusal leaves it
abbrev pub returned : {B A : Type 0} → (B → List ℕ) → Outcome B A → List ℕ → Returned A
returned numbers (gives v, o) answer = (0, o, numbers v)
returned numbers (refuses_at n k b, o) answer = (code n k b, o, answer)

-- What a C call owes for the output and the answer that it was lent (demand 1): where it returns another number than 0, that is a number of the list, 256
-- times a bit that goes with it and 2^24 times a record, and both are as they were; where it returns 0, of the output only what is written changes, at the front.
abbrev pub OwedToC : {A : Type 0} → List A → List ℕ → Returned A → Type 0
OwedToC {A = A} o answer (r, p, q) =
    ((r ≡ 0 → ⊥) → Listed (r % 256) × GoesWith (r / 256 % 65536) (r % 256) × (p ≡ o) × (q ≡ answer)) × (r ≡ 0 → (xs : List A) × (length xs ≤ length o) × (p ≡ at_front xs o))
