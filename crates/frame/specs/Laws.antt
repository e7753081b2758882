-- What is taken apart from a frame that was put together is what it was put together from; the padding is not looked at; and by the scope
-- paper's order the check is as that paper has it. Proved in proofs/RoundTrip. Assumes nothing.
use Rattle.std.specs.Prelude.{◌≡◌, true, cond, List, ◌++◌, ℕ, ◌<◌, eqb, length, Ok}
use Rattle.octets.specs.Bits.{Bit, field_bits, field_at, bits_from, packed}
use Rattle.register.specs.declared.BitOrder.TheVariants.{LowFirst}
use Rattle.register.specs.declared.Check.{Check}
use Rattle.register.specs.Setting.{check_under, frame_check}
use Rattle.settings.specs.declared.Settings.{Settings}
use Rattle.frame.specs.declared.FrameKind.TheVariants.{SetUp as SetUpFrame, Data as DataFrame}
use Rattle.frame.specs.declared.Header.{Header}
use Rattle.frame.specs.declared.Record.TheVariants.{SetUp, Data}
use Rattle.frame.specs.Layout.{check_agrees, data_bits, kind_of, parsed, data_front, set_up_front, sent_frame}

-- a header whose numbers fit their fields
pub record Fits (h : Header) : Type 0 where
  pub sequence : h.sequence < 4
  pub count : h.count < 1024
  pub x : h.x < 4096
  pub black : h.black < 8
  pub white : h.white < 8

-- The header of a data frame is taken back, under every setting that finds the check right.
abbrev pub DataTaken : Type 0
DataTaken = (r c : Check) (h : Header) (ds : List Bit) → length ds ≡ 512 → Fits h → check_agrees r (sent_frame c (data_front h ds)) ≡ true →
    parsed r DataFrame (sent_frame c (data_front h ds)) ≡ Ok (Data h)

-- And its data bits.
abbrev pub DataBack : Type 0
DataBack = (c : Check) (h : Header) (ds : List Bit) → length ds ≡ 512 → data_bits (sent_frame c (data_front h ds)) ≡ ds

-- The settings of a set-up frame are taken back, under every setting that finds the check right.
abbrev pub SetUpTaken : Type 0
SetUpTaken = (r c : Check) (x : Settings) → check_agrees r (sent_frame c (set_up_front x)) ≡ true → parsed r SetUpFrame (sent_frame c (set_up_front x)) ≡ Ok (SetUp x)

-- The last 7 bits are not looked at: frames that have the first 585 bits in common are taken apart to the same.
abbrev pub PaddingUnread : Type 0
PaddingUnread = (c : Check) (s t : List ℕ) → bits_from s 0 585 ≡ bits_from t 0 585 →
    (parsed c SetUpFrame s ≡ parsed c SetUpFrame t) × (parsed c DataFrame s ≡ parsed c DataFrame t) × (data_bits s ≡ data_bits t)

-- By the scope paper's order the check is sent, and compared, low bit first.
abbrev pub ScopeOrder : Type 0
ScopeOrder = (c : Check) → c.order ≡ LowFirst →
    ((s : List ℕ) → check_agrees c s ≡ cond c.compare (eqb (frame_check c s) (field_at s 573 12)) true)
    × ((front : List Bit) → sent_frame c front ≡ packed 74 (front ++ field_bits 12 (check_under c front)))

-- The header of a frame that was put together says its kind.
abbrev pub KindTold : Type 0
KindTold = (c : Check) →
    ((x : Settings) → kind_of (sent_frame c (set_up_front x)) ≡ SetUpFrame)
    × ((h : Header) (ds : List Bit) → length ds ≡ 512 → kind_of (sent_frame c (data_front h ds)) ≡ DataFrame)
