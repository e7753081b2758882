-- Faults: a reason of the list, and the bit that goes with it; and a fault at a record, which is a refusal. Assumes nothing.
use Rattle.std.specs.Prelude.{◌≡◌, ℕ, ◌<◌}
use Rattle.refusal.specs.declared.Reason.{Reason}
use Rattle.refusal.specs.declared.Reason.TheVariants.{NoReading}
use Rattle.refusal.specs.declared.Fault.{Fault}
use Rattle.refusal.specs.declared.Refusal.{Refusal}

-- the fault of a reason that no bit goes with: any but `NoReading`
abbrev pub fault_of : Reason → Fault
fault_of reason = record { reason = reason; bit = 0 }

-- a data part has no reading, and its longest beginning that has one has so many bits
abbrev pub no_reading : ℕ → Fault
no_reading bit = record { reason = NoReading; bit = bit }

abbrev pub at_record : Fault → ℕ → Refusal
at_record f k = record { reason = f.reason; bit = f.bit; «record» = k }

-- The bit that goes with a number: 0, or with 11 one of a data part's, which has at most 512.
abbrev pub GoesWith : ℕ → ℕ → Type 0
GoesWith bit number = ((number ≡ 11 → ⊥) → bit ≡ 0) × (bit < 512)
