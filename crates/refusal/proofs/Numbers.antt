-- The numbers of the list are from 1 to 25. Assumes nothing.
use mathlib.Core.Path.{◌≡◌, refl}
use Prim.Native.Nat.{◌<◌}
use native.Mathlib.Omega.{arith}
use Rattle.refusal.specs.declared.Reason.{Reason}
use Rattle.refusal.specs.declared.Reason.TheVariants.{RecordIncomplete, RecordUnknown, RecordOutOfPlace, SyncDiffers, CheckDiffers, SettingsNotAllowed, SequenceWrong, CountTooLarge, SizeNotAllowed, HeaderDisagrees, NoReading, FrameAfterClosingWord, PageEndsOpen, ColumnsNotWholePairs, TooManyLines, OutputTooShort, BitmapSizeNotAllowed, BitmapContentNotAllowed, LastColumnNotEncodable, RequestNotAllowed, RunWordsNotAllowed, ListOutside}
use Rattle.refusal.specs.Number.{number_of}

within : (reason : Reason) → (0 < number_of reason) × (number_of reason < 26)
within RecordIncomplete = (omega arith, omega arith)
within RecordUnknown = (omega arith, omega arith)
within RecordOutOfPlace = (omega arith, omega arith)
within SyncDiffers = (omega arith, omega arith)
within CheckDiffers = (omega arith, omega arith)
within SettingsNotAllowed = (omega arith, omega arith)
within SequenceWrong = (omega arith, omega arith)
within CountTooLarge = (omega arith, omega arith)
within SizeNotAllowed = (omega arith, omega arith)
within HeaderDisagrees = (omega arith, omega arith)
within NoReading = (omega arith, omega arith)
within FrameAfterClosingWord = (omega arith, omega arith)
within PageEndsOpen = (omega arith, omega arith)
within ColumnsNotWholePairs = (omega arith, omega arith)
within TooManyLines = (omega arith, omega arith)
within OutputTooShort = (omega arith, omega arith)
within BitmapSizeNotAllowed = (omega arith, omega arith)
within BitmapContentNotAllowed = (omega arith, omega arith)
within LastColumnNotEncodable = (omega arith, omega arith)
within RequestNotAllowed = (omega arith, omega arith)
within RunWordsNotAllowed = (omega arith, omega arith)
within ListOutside = (omega arith, omega arith)

pub number_some : (reason : Reason) → 0 < number_of reason
number_some reason = (within reason).0

pub number_small : (reason : Reason) → number_of reason < 26
number_small reason = (within reason).1

-- 11 is that of one reason alone
pub eleven : (reason : Reason) → number_of reason ≡ 11 → reason ≡ NoReading
eleven RecordIncomplete e = absurd (omega (arith, e))
eleven RecordUnknown e = absurd (omega (arith, e))
eleven RecordOutOfPlace e = absurd (omega (arith, e))
eleven SyncDiffers e = absurd (omega (arith, e))
eleven CheckDiffers e = absurd (omega (arith, e))
eleven SettingsNotAllowed e = absurd (omega (arith, e))
eleven SequenceWrong e = absurd (omega (arith, e))
eleven CountTooLarge e = absurd (omega (arith, e))
eleven SizeNotAllowed e = absurd (omega (arith, e))
eleven HeaderDisagrees e = absurd (omega (arith, e))
eleven NoReading e = refl
eleven FrameAfterClosingWord e = absurd (omega (arith, e))
eleven PageEndsOpen e = absurd (omega (arith, e))
eleven ColumnsNotWholePairs e = absurd (omega (arith, e))
eleven TooManyLines e = absurd (omega (arith, e))
eleven OutputTooShort e = absurd (omega (arith, e))
eleven BitmapSizeNotAllowed e = absurd (omega (arith, e))
eleven BitmapContentNotAllowed e = absurd (omega (arith, e))
eleven LastColumnNotEncodable e = absurd (omega (arith, e))
eleven RequestNotAllowed e = absurd (omega (arith, e))
eleven RunWordsNotAllowed e = absurd (omega (arith, e))
eleven ListOutside e = absurd (omega (arith, e))
