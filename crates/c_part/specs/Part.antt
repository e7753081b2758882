-- What the C call on one data part returns, and what it leaves in the output and in the answer. Assumes nothing.
use Rattle.std.specs.Prelude.{cond, List, [], ◌∷◌, ℕ, ltb, Result, Ok, Err}
use Rattle.refusal.specs.declared.Reason.TheVariants.{HeaderDisagrees}
use Rattle.refusal.specs.Number.{number_of}
use Rattle.state.specs.declared.State.TheVariants.{Solid as solid}
use Rattle.state.specs.Pels.{pels_of, state_of}
use Rattle.diagram.specs.declared.End.{End}
use Rattle.diagram.specs.declared.End.TheVariants.{At, Closed, Open}
use Rattle.diagram.specs.declared.Context.{Context}
use Rattle.diagram.specs.declared.Start.{Start}
use Rattle.part_notes.specs.declared.PartReading.{PartReading}
use Rattle.part.specs.Call.{part_validity, read_part}
use Rattle.c_refusal.specs.Returned.{Returned, returned}
use Rattle.refusal.specs.declared.Reason.{Reason}

-- an end: the pels of its state, or 4 for open
abbrev pub end_number : End → ℕ
end_number (At s) = pels_of s
end_number (Closed s) = pels_of (solid s)
end_number Open = 4

-- bits, columns, end, black length, white length
abbrev pub numbers_of : PartReading → List ℕ
numbers_of s = s.bits.0 ∷ s.columns.0 ∷ end_number s.end ∷ s.lengths.black ∷ s.lengths.white ∷ []

-- a number that is no state: 8, 9 and 10 as the part judges them, else 10
abbrev pub unstated : Result Unit Reason → ℕ
unstated (Err reason) = number_of reason
unstated (Ok _) = number_of HeaderDisagrees

-- the start that the numbers say
abbrev pub start_of : ℕ → Context → Start
start_of state c = record { state = state_of state; context = c }

-- of octets, count, state, lengths and X, the output that was and the answer that was
unfoldable pub exported_part : List ℕ → ℕ → ℕ → Context → List ℕ → List ℕ → Returned ℕ
exported_part s count state c o answer =
    cond (ltb 3 state) (unstated (part_validity s count (start_of state c)), o, answer)
    (returned numbers_of (read_part s count (start_of state c) o) answer)
