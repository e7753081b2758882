-- The line of what a walker finds, and whether it is a record, behind which the walk goes on. Assumes nothing.
use Rattle.std.specs.Prelude.{Bool, true, false, List, ℕ, Result, Ok, Err}
use Rattle.record_found.specs.declared.Found.{Found}
use Rattle.record_found.specs.declared.Found.TheVariants.{Record, End}
use Rattle.record_lines.specs.Lines.{record_line, end_line, refusal_line}
use Rattle.refusal.specs.declared.Refusal.{Refusal}

-- what is found as record k; a refusal says its record and bit itself
abbrev pub found_line : ℕ → Result Found Refusal → List ℕ
found_line k (Ok (Record r)) = record_line k r
found_line k (Ok End) = end_line k
found_line k (Err f) = refusal_line f

abbrev pub is_record : Result Found Refusal → Bool
is_record (Ok (Record r)) = true
is_record (Ok End) = false
is_record (Err f) = false
