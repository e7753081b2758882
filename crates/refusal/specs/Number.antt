-- The list of refusals: each reason and its number, with the case in which it is given. Assumes nothing.
use Rattle.std.specs.Prelude.{ℕ}
use Rattle.refusal.specs.declared.Reason.{Reason}
use Rattle.refusal.specs.declared.Reason.TheVariants.{RecordIncomplete, RecordUnknown, RecordOutOfPlace, SyncDiffers, CheckDiffers}
use Rattle.refusal.specs.declared.Reason.TheVariants.{SettingsNotAllowed, SequenceWrong, CountTooLarge, SizeNotAllowed, HeaderDisagrees}
use Rattle.refusal.specs.declared.Reason.TheVariants.{NoReading, FrameAfterClosingWord, PageEndsOpen, ColumnsNotWholePairs, TooManyLines}
use Rattle.refusal.specs.declared.Reason.TheVariants.{OutputTooShort, BitmapSizeNotAllowed, BitmapContentNotAllowed, LastColumnNotEncodable}
use Rattle.refusal.specs.declared.Reason.TheVariants.{RequestNotAllowed, RunWordsNotAllowed, ListOutside}

abbrev pub number_of : Reason → ℕ
-- the length or command octet is missing where a record is due, or the rest of a known record is; of a file only the first 2^46 octets are read, so
-- that it is given too where the end record stands behind them
number_of RecordIncomplete = 1
-- both octets are there and are none of the three pairs
number_of RecordUnknown = 2
-- a record where its kind may not come
number_of RecordOutOfPlace = 3
-- the frame does not begin with the sync
number_of SyncDiffers = 4
-- the frame's check is not that of its bits
number_of CheckDiffers = 5
-- start bit 1, speed and detail both set, or both paper bits
number_of SettingsNotAllowed = 6
-- the sequence number is not the one due
number_of SequenceWrong = 7
-- count above 512, or above the bits lent for one data part
number_of CountTooLarge = 8
-- a field length below 2, or one above 7 handed in
number_of SizeNotAllowed = 9
-- X, state or a field length is not that of the reading so far
number_of HeaderDisagrees = 10
-- the data part has no reading
number_of NoReading = 11
-- an image frame after one that ended on a closing word
number_of FrameAfterClosingWord = 12
-- the page ends with an open column
number_of PageEndsOpen = 13
-- the columns are 0 or no multiple of 1726
number_of ColumnsNotWholePairs = 14
-- more lines than a page may have
number_of TooManyLines = 15
-- the lent output is too short
number_of OutputTooShort = 16
-- a bitmap under 4 octets, of a width that is not 1726, or of lines that are odd, 0 or too many
number_of BitmapSizeNotAllowed = 17
-- a bitmap whose length is not that of its lines, or with a trailing bit set
number_of BitmapContentNotAllowed = 18
-- the last column cannot be encoded
number_of LastColumnNotEncodable = 19
-- a check setting that is not allowed, "not compared" asked for in writing, or a rate other than the three
number_of RequestNotAllowed = 20
-- run words that break their rule
number_of RunWordsNotAllowed = 22
-- a list that reaches outside what is lent with it: an entry of a list of frames whose bit is above 7, or from whose place on fewer than 585 bits
-- of the capture are left. The papers give it for the list of a batch of files too, a call that is not there yet
number_of ListOutside = 25
