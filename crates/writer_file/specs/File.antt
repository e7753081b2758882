-- The file that is written of a page. Assumes nothing.
use Rattle.std.specs.Prelude.{List, [], ◌∷◌, ◌++◌, ℕ, suc, ◌-◌, ◌%◌, length, replicate}
use Rattle.octets.specs.Bits.{Bit, O}
use Rattle.register.specs.declared.Check.{Check}
use Rattle.state.specs.declared.State.{State}
use Rattle.diagram.specs.declared.Start.{Start}
use Rattle.frame.specs.declared.Header.{Header}
use Rattle.settings.specs.declared.Settings.{Settings}
use Rattle.frame.specs.Layout.{data_front, set_up_front, stored_frame, end_record}
use Rattle.units.specs.Units.{bits_of_steps}
use Rattle.writer_fill.specs.Frames.{Frame, frame_of, page_start, frames_of}

-- the header of data record i, counted from 0: X is the index of the last column encoded before it
abbrev pub header_with : ℕ → ℕ → Start → Header
header_with i count a = record { sequence = i % 4; count = count; x = a.context.x; black = a.context.lengths.black; white = a.context.lengths.white; state = a.state }

abbrev pub header_for : ℕ → Frame → Header
header_for i f = header_with i (length (bits_of_steps f.steps)) f.start

-- 512 data bits: those that are not used are 0
unfoldable pub filled_up : List Bit → List Bit
filled_up bs = bs ++ replicate (512 - length bs) O

abbrev pub set_up_record : Check → Settings → List ℕ
set_up_record c g = 76 ∷ 56 ∷ stored_frame c (set_up_front g)

abbrev pub data_record : Check → ℕ → Frame → List ℕ
data_record c i f = 76 ∷ 57 ∷ stored_frame c (data_front (header_for i f) (filled_up (bits_of_steps f.steps)))

-- data records from record i on
unfoldable pub data_records : Check → ℕ → List Frame → List ℕ
data_records c i [] = []
data_records c i (f ∷ fs) = data_record c i f ++ data_records c (suc i) fs

-- the frame of count 0: X 1725, 7, 7, WW
abbrev pub no_frame : Frame
no_frame = frame_of page_start []

-- one set-up record, the frame of count 0, the image frames, the end record
unfoldable pub file_of : Check → Settings → ℕ → List State → List ℕ
file_of c g most cs = set_up_record c g ++ (data_records c 0 (no_frame ∷ frames_of most cs) ++ end_record)
