-- Demand 1, of one call: what it owes for the output that it was lent, whatever is handed in. Assumes nothing.
use Rattle.std.specs.Prelude.{◌≡◌, List, ℕ, ◌^◌, ◌≤◌, ◌<◌, length}
use Rattle.basics.specs.Placed.{at_front}
use Rattle.refusal.specs.declared.Reason.{Reason}
use Rattle.refusal.specs.Number.{number_of}
use Rattle.refusal.specs.Fault.{GoesWith}
use Rattle.refusal.specs.Reply.{gives, refuses_at, Outcome}

-- a number of the list
abbrev pub Listed : ℕ → Type 0
Listed n = (reason : Reason) × (number_of reason ≡ n)

-- A refusal is by a number of the list, at a record's place, with a bit that goes with the number, and leaves the output as it was. An acceptance changes only what it writes, at the front.
abbrev pub Owed : {B A : Type 0} → List A → Outcome B A → Type 0
Owed o (refuses_at n k b, p) = Listed n × GoesWith b n × (k < 2 ^ 40) × (p ≡ o)
Owed {A = A} o (gives v, p) = (xs : List A) × (length xs ≤ length o) × (p ≡ at_front xs o)
