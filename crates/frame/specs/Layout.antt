-- The 585 bits of a frame: what each says, and what is written. Assumes nothing.
--   0  sync 24 · 24 sequence 2 · 26 flags 5 (run, cofb, rpt, spare, sub) · 31 count 10 · 41 X 12 · 53 black 3 · 56 white 3
--   59 state 2 · 61 data 512 · 573 check 12 · 585 padding 7
-- Count, X and the sizes are sent low bit first; sync, sequence, state and settings high bit first; the check as its setting says, by the scope
-- paper low bit first.
use Rattle.std.specs.Prelude.{Bool, true, cond, ◌&&◌, List, [], ◌∷◌, ◌++◌, ℕ, zero, suc, eqb, replicate, Option, Some, None, Result, Ok, Err}
use Rattle.octets.specs.Bits.{Bit, O, I, field_bits, number_bits, field_at, number_at, bits_from, packed, put_bits}
use Rattle.turning.specs.Turned.{turned_from}
use Rattle.register.specs.declared.BitOrder.{BitOrder}
use Rattle.register.specs.declared.BitOrder.TheVariants.{LowFirst, HighFirst}
use Rattle.register.specs.declared.Check.{Check}
use Rattle.register.specs.Setting.{check_under, frame_check}
use Rattle.refusal.specs.declared.Reason.TheVariants.{SyncDiffers, CheckDiffers, SequenceWrong, SettingsNotAllowed}
use Rattle.state.specs.Pels.{pels_of, state_of}
use Rattle.frame.specs.declared.FrameKind.{FrameKind}
use Rattle.frame.specs.declared.FrameKind.TheVariants.{SetUp as SetUpFrame, Data as DataFrame}
use Rattle.frame.specs.declared.Header.{Header}
use Rattle.frame.specs.declared.Record.TheVariants.{SetUp, Data}
use Rattle.settings.specs.declared.Settings.{Settings}
use Rattle.settings.specs.Settings.{settings_of, settings_number}
use Rattle.frame.specs.declared.Record.{Record}
use Rattle.refusal.specs.declared.Reason.{Reason}

abbrev pub sync_number : ℕ
sync_number = 0x6279D8

-- ---- taken apart, from octets in sent order

unfoldable pub sync_agrees : List ℕ → Bool
sync_agrees s = eqb (number_at s 0 24) sync_number

-- the check that was sent, its bits in an order
unfoldable pub check_sent : BitOrder → List ℕ → ℕ
check_sent LowFirst s = field_at s 573 12
check_sent HighFirst s = number_at s 573 12

unfoldable pub check_agrees : Check → List ℕ → Bool
check_agrees c s = cond c.compare (eqb (frame_check c s) (check_sent c.order s)) true

unfoldable pub header_of : List ℕ → Header
header_of s = record {
  sequence = number_at s 24 2;
  count = field_at s 31 10;
  x = field_at s 41 12;
  black = field_at s 53 3;
  white = field_at s 56 3;
  state = state_of (number_at s 59 2);
}

-- the 512 data bits
unfoldable pub data_bits : List ℕ → List Bit
data_bits s = bits_from s 61 512

-- Which kind of frame a header says: a set-up frame's has the flags 00101 and then thirty ones. A file says the kind by its record; in a capture
-- of the line there is the frame alone.
unfoldable pub kind_of : List ℕ → FrameKind
kind_of s = cond (eqb (number_at s 26 5) 0b00101 && eqb (number_at s 31 30) 0x3FFFFFFF) SetUpFrame DataFrame

-- what holds after sync and check are judged, in this order
abbrev pub if_intact : Check → List ℕ → Result Record Reason → Result Record Reason
if_intact c s t = cond (sync_agrees s) (cond (check_agrees c s) t (Err CheckDiffers)) (Err SyncDiffers)

abbrev pub settings_parsed : Option Settings → Result Record Reason
settings_parsed (Some s) = Ok (SetUp s)
settings_parsed None = Err SettingsNotAllowed

-- a set-up frame: its sequence is 0; the start bit and the four bits of its settings are a number of five bits, in which the start bit is 0
unfoldable pub set_up_of : List ℕ → Result Record Reason
set_up_of s = cond (eqb (number_at s 24 2) 0) (settings_parsed (settings_of (number_at s 61 5))) (Err SequenceWrong)

abbrev pub content_of : FrameKind → List ℕ → Result Record Reason
content_of SetUpFrame s = set_up_of s
content_of DataFrame s = Ok (Data (header_of s))

-- a frame of a kind, under a check setting
unfoldable pub parsed : Check → FrameKind → List ℕ → Result Record Reason
parsed c kind s = if_intact c s (content_of kind s)

-- ---- put together

abbrev pub sync : List Bit
sync = number_bits 24 sync_number

-- the header of a data frame: the flags are 10000
unfoldable pub header_bits : Header → List Bit
header_bits h =
    number_bits 2 h.sequence ++ (number_bits 5 0b10000 ++ (field_bits 10 h.count ++ (field_bits 12 h.x
    ++ (field_bits 3 h.black ++ (field_bits 3 h.white ++ number_bits 2 (pels_of h.state))))))

-- n times the bits 1 and 0
unfoldable pub alternating : ℕ → List Bit
alternating zero = []
alternating (suc n) = I ∷ O ∷ alternating n

-- header and data of a set-up frame: sequence 0, flags 00101, thirty ones; start bit 0 and the settings; paper present 1, five spare 0,
-- multi-page 0; twenty 0; 480 bits alternating from 1
unfoldable pub set_up_bits : Settings → List Bit
set_up_bits s =
    number_bits 7 0b0000101 ++ (replicate 30 I ++ (number_bits 5 (settings_number s) ++ (number_bits 7 0b1000000 ++ (replicate 20 O ++ alternating 240))))

-- bits 0 to 572
abbrev pub data_front : Header → List Bit → List Bit
data_front h ds = sync ++ (header_bits h ++ ds)

abbrev pub set_up_front : Settings → List Bit
set_up_front s = sync ++ set_up_bits s

-- the twelve bits of a check, in an order
unfoldable pub check_bits : BitOrder → ℕ → List Bit
check_bits LowFirst v = field_bits 12 v
check_bits HighFirst v = number_bits 12 v

-- octets with the check of their bits put behind bit 572, as they are stored
unfoldable pub closed_frame : Check → List ℕ → List ℕ
closed_frame c s = turned_from (put_bits s 573 (check_bits c.order (frame_check c s))) 0 74

-- the frame with its check, as octets in sent order; the 7 bits of padding are 0
unfoldable pub sent_frame : Check → List Bit → List ℕ
sent_frame c front = packed 74 (front ++ check_bits c.order (check_under c front))

-- and as it is stored
unfoldable pub stored_frame : Check → List Bit → List ℕ
stored_frame c front = turned_from (sent_frame c front) 0 74

-- ---- as records of a file

-- a stored frame behind its record's length and command
abbrev pub record_of : FrameKind → List ℕ → List ℕ
record_of SetUpFrame f = 76 ∷ 56 ∷ f
record_of DataFrame f = 76 ∷ 57 ∷ f

abbrev pub end_record : List ℕ
end_record = 2 ∷ 58 ∷ []
