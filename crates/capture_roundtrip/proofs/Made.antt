-- There are captures of every file: its line put into octets is one; and quiet gaps: those of zeros. Assumes nothing.
use mathlib.Core.Path.{◌≡◌, ap, ◌∙◌}
use mathlib.Core.List.{List, ◌++◌}
use Prim.Native.Nat.{ℕ, zero, suc, ◌*◌}
use native.Mathlib.Omega.{arith}
use lib.ListN.{replicate}
use Rattle.octets.specs.Bits.{Bit, O, bits_from, high_first, number_bits, packed}
use Rattle.octets.proofs.Fields.{high_lt}
use Rattle.octets.proofs.Packed.{length_packed, all_packed}
use Rattle.frame.specs.Layout.{sync_number, sync}
use Rattle.capture.proofs.Taken.{none_there}
use Rattle.capture_roundtrip.specs.Line.{line_of, octets_of}
use Rattle.capture_roundtrip.specs.Laws.{CaptureMade, ZerosQuiet}

pub capture_made : CaptureMade
capture_made c file gaps n q =
    let bs : List Bit = line_of file gaps in
    let m = length_packed (octets_of bs) bs in
    record {
      bits = ap (λ (k : ℕ). bits_from (packed (octets_of bs) bs) 0 (8 * k)) m ∙ all_packed (octets_of bs) bs (omega arith);
      all_frames = n;
      quiet = q;
      nothing_behind = λ i h. none_there c (packed (octets_of bs) bs) i (omega arith);
    }

-- A sync behind zeros, read from one of them on, is half of it, or less than a fourth of what 24 bits can say.
behind_zeros : (n : ℕ) → high_first 24 (replicate (suc n) O ++ sync) ≡ sync_number → ⊥
unfolding high_first number_bits
behind_zeros zero e = let z : ◌≡◌ {A = ℕ} 0x313CEC 0x6279D8 = e in omega (arith, z)
behind_zeros (suc n) e = omega (arith, e, high_lt 22 (replicate n O ++ sync))

pub zeros_quiet : ZerosQuiet
zeros_quiet zero i h e = absurd (omega arith)
zeros_quiet (suc n) zero h e = behind_zeros n e
zeros_quiet (suc n) (suc i) h e = zeros_quiet n i (omega arith) e
