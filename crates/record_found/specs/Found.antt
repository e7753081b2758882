-- What is found at a place of a file, each record judged by itself: 1, 2, 4, 5, and of a set-up record 7, 6; and the place then. Assumes nothing.
use Rattle.std.specs.Prelude.{cond, List, ℕ, ◌+◌, ◌/◌, Result, Ok, Err}
use Rattle.refusal.specs.Fault.{fault_of, at_record}
use Rattle.refusal.specs.declared.Reason.{Reason}
use Rattle.refusal.specs.declared.Reason.TheVariants.{RequestNotAllowed}
use Rattle.register.specs.declared.Check.{Check}
use Rattle.register.specs.Setting.{allowed_check}
use Rattle.records.specs.declared.Kind.TheVariants.{Frame, End as EndDue}
use Rattle.records.specs.Records.{due_at, framed_at}
use Rattle.record_found.specs.declared.Found.{Found}
use Rattle.record_found.specs.declared.Found.TheVariants.{Record, End}
use Rattle.record_found.specs.declared.WalkStep.{WalkStep}
use Rattle.frame.specs.declared.Record.{Record as FrameRecord}
use Rattle.records.specs.declared.Kind.{Kind}
use Rattle.refusal.specs.declared.Refusal.{Refusal}

-- a refusal at record k
abbrev pub refused_at : Reason → ℕ → Result Found Refusal
refused_at reason k = Err (at_record (fault_of reason) k)

-- record k, as its frame is taken apart
abbrev pub found_in : Result FrameRecord Reason → ℕ → Result Found Refusal
found_in (Ok r) k = Ok (Record r)
found_in (Err reason) k = refused_at reason k

-- what is due at octet `at`: every record before it has 76 octets, so its index is at / 76
abbrev pub found_due : Check → List ℕ → ℕ → Result Kind Reason → Result Found Refusal
found_due c file at (Err reason) = refused_at reason (at / 76)
found_due c file at (Ok (Frame kind)) = found_in (framed_at c file at kind).taken (at / 76)
found_due c file at (Ok EndDue) = Ok End

unfoldable pub found_at : Check → List ℕ → ℕ → Result Found Refusal
found_at c file at = found_due c file at (due_at file at)

-- the place goes on behind a record, and stays at the end record and at a refusal
abbrev pub place_after : Result Found Refusal → ℕ → ℕ
place_after (Ok (Record r)) at = at + 76
place_after (Ok End) at = at
place_after (Err f) at = at

abbrev pub step_on : Result Found Refusal → ℕ → WalkStep
step_on f at = record { found = f; next = place_after f at }

-- 20 before all
unfoldable pub step_at : Check → List ℕ → ℕ → WalkStep
step_at c file at = step_on (cond (allowed_check c) (found_at c file at) (refused_at RequestNotAllowed 0)) at
