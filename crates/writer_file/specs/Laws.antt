-- How long a file is. Proved in proofs/Sizes. Assumes nothing.
use Rattle.std.specs.Prelude.{◌≡◌, List, ℕ, ◌+◌, ◌*◌, length}
use Rattle.register.specs.declared.Check.{Check}
use Rattle.state.specs.declared.State.{State}
use Rattle.settings.specs.declared.Settings.{Settings}
use Rattle.writer_fill.specs.Frames.{frames_of}
use Rattle.writer_file.specs.File.{file_of}

-- The records of a file: a set-up record, the frame of count 0, the image frames, of 76 octets each, and the end record of 2.
abbrev pub LengthFile : Type 0
LengthFile = (c : Check) (g : Settings) (most : ℕ) (cs : List State) → length (file_of c g most cs) ≡ 76 * (2 + length (frames_of most cs)) + 2
