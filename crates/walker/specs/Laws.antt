-- Where a walker finds records, and where it stays. Proved in proofs/Steps. Assumes nothing.
use Rattle.std.specs.Prelude.{◌≡◌, List, ℕ, ◌*◌, ◌/◌, ◌≤◌, length, Ok}
use Rattle.register.specs.declared.Check.{Check}
use Rattle.frame.specs.declared.Record.{Record as FrameRecord}
use Rattle.record_found.specs.declared.Found.TheVariants.{Record}
use Rattle.record_found.specs.Found.{step_at}
use Rattle.walker.specs.Walk.{place_of}

-- A record that is found after k steps begins at octet 76 * k.
abbrev pub RecordPlace : Type 0
RecordPlace = (c : Check) (file : List ℕ) (k : ℕ) (r : FrameRecord) → (step_at c file (place_of c file k)).found ≡ Ok (Record r) → place_of c file k ≡ 76 * k

-- Behind as many steps as the file has room for records, a walker stays where it is.
abbrev pub WalkEnds : Type 0
WalkEnds = (c : Check) (file : List ℕ) (n k : ℕ) → n ≡ length file / 76 → n ≤ k → place_of c file k ≡ place_of c file n
