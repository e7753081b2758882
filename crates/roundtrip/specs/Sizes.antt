-- How large what is written is. Proved in proofs/Sizes. Assumes nothing.
use Rattle.std.specs.Prelude.{◌≡◌, true, List, [], ◌∷◌, ℕ, suc, ◌+◌, ◌*◌, ◌/◌, ◌≤◌, length}
use Rattle.register.specs.declared.Check.{Check}
use Rattle.state.specs.declared.State.{State}
use Rattle.settings.specs.declared.Settings.{Settings}
use Rattle.bitmap.specs.Form.{lines_of, columns_of}
use Rattle.bitmap.specs.Validity.{bitmap_validity}
use Rattle.units.specs.Units.{bits_of_steps}
use Rattle.writer_fill.specs.Frames.{Frame, frames_of}
use Rattle.writer_file.specs.File.{file_of}
use Rattle.writer.specs.Call.{most_columns, request_allowed}
use Rattle.refusal.specs.Reply.{valid}

-- the data bits of frames
unfoldable pub bits_in : List Frame → ℕ
bits_in [] = 0
bits_in (f ∷ fs) = length (bits_of_steps f.steps) + bits_in fs

-- of each frame
pub data Every (P : Frame → Type 0) : List Frame → Type 0 where
  none : Every P []
  and : {f : Frame} {fs : List Frame} → P f → Every P fs → Every P (f ∷ fs)

pub record Sized (f : Frame) : Type 0 where
  pub some : 1 ≤ length (bits_of_steps f.steps)
  pub few : length (bits_of_steps f.steps) ≤ 508

-- Every image frame has from 1 to 508 bits, whatever the page and the rate.
abbrev pub FrameSizes : Type 0
FrameSizes = (most : ℕ) (cs : List State) → Every Sized (frames_of most cs)

-- The bits of a page: at most 4 for each column, and 23.
abbrev pub BitsMost : Type 0
BitsMost = (most : ℕ) (cs : List State) → bits_in (frames_of most cs) ≤ 4 * length cs + 23

-- Its frames: every one but the last has more than 500 bits, or more columns than the rate allows.
abbrev pub FramesMost : Type 0
FramesMost = (most : ℕ) (cs : List State) → length (frames_of most cs) ≤ (4 * length cs + 20) / 501 + length cs / suc most + 1

-- So much room is enough for the file of a bitmap: of 76 octets, 7 records and a quarter a line.
abbrev pub RoomEnough : Type 0
RoomEnough = (c : Check) (g : Settings) (rate : ℕ) (bm : List ℕ) → request_allowed c rate ≡ true → bitmap_validity bm ≡ valid →
    length (file_of c g (most_columns rate) (columns_of bm)) ≤ 551 * lines_of bm + 230
