-- The number of octets of what is written. Assumes nothing.
use mathlib.Core.Path.{◌≡◌, refl, ◌∙◌}
use mathlib.Core.List.{List, [], ◌∷◌, ◌++◌}
use Prim.Native.Nat.{ℕ, suc, ◌*◌}
use native.Mathlib.Omega.{arith}
use lib.ListN.{length, length-append}
use Rattle.octets.specs.Bits.{Bit}
use Rattle.turning.proofs.Turned.{length_turned}
use Rattle.register.specs.declared.Check.{Check}
use Rattle.frame.specs.Layout.{data_front, set_up_front, sent_frame, stored_frame, end_record}
use Rattle.units.specs.Units.{bits_of_steps}
use Rattle.writer_fill.specs.Frames.{Frame, frames_of}
use Rattle.writer_file.specs.File.{header_for, filled_up, set_up_record, data_record, data_records, no_frame, file_of}
use Rattle.writer_file.specs.Laws.{LengthFile}

pub length_stored : (c : Check) (front : List Bit) → length (stored_frame c front) ≡ 74
unfolding stored_frame
length_stored c front = length_turned (sent_frame c front) 0 74

pub length_data : (c : Check) (i : ℕ) (f : Frame) → length (data_record c i f) ≡ 76
length_data c i f = omega (arith, length_stored c (data_front (header_for i f) (filled_up (bits_of_steps f.steps))))

pub length_records : (c : Check) (i : ℕ) (fs : List Frame) → length (data_records c i fs) ≡ 76 * length fs
unfolding data_records
length_records c i [] = refl
length_records c i (f ∷ fs) = length-append (data_record c i f) (data_records c (suc i) fs) ∙ omega (arith, length_data c i f, length_records c (suc i) fs)

pub length_file : LengthFile
unfolding file_of
length_file c g most cs =
    let n = length-append (set_up_record c g) (data_records c 0 (no_frame ∷ frames_of most cs) ++ end_record) in
    let m = length-append (data_records c 0 (no_frame ∷ frames_of most cs)) end_record in
    omega (arith, length_stored c (set_up_front g), length_records c 0 (no_frame ∷ frames_of most cs))
