-- What the second pass does with a file: image and columns, record by record. A frame that is refused lays nothing; in a page none is.
-- Assumes nothing.
use Rattle.std.specs.Prelude.{cond, List, [], ◌++◌, ℕ, zero, suc, ◌*◌, eqb, Result, Ok, Err}
use Rattle.state.specs.declared.State.{State}
use Rattle.frame.specs.declared.Header.{Header}
use Rattle.frame.specs.Layout.{header_of}
use Rattle.chain.specs.declared.Image.{Image}
use Rattle.frame.specs.declared.FrameKind.TheVariants.{SetUp, Data}
use Rattle.records.specs.declared.Kind.TheVariants.{Frame, End}
use Rattle.records.specs.Records.{due_at, sent_at}
use Rattle.chain.specs.Chain.{chained}
use Rattle.reader_record.specs.Record.{columns_at}
use Rattle.chain.specs.declared.NextImage.{NextImage}
use Rattle.records.specs.declared.Kind.{Kind}
use Rattle.refusal.specs.declared.Fault.{Fault}
use Rattle.refusal.specs.declared.Reason.{Reason}

-- the image after an image frame
abbrev pub image_in : Image → Result NextImage Fault → Image
image_in im (Ok g) = g.image
image_in im (Err f) = im

unfoldable pub image_by : Image → Header → List ℕ → Image
image_by im h s = image_in im (chained im h s)

-- the image after record k
abbrev pub due_image : List ℕ → ℕ → Image → Result Kind Reason → Image
due_image file k im (Err reason) = im
due_image file k im (Ok (Frame SetUp)) = im
due_image file k im (Ok End) = im
due_image file k im (Ok (Frame Data)) = cond (eqb (header_of (sent_at file k)).count 0) im (image_by im (header_of (sent_at file k)) (sent_at file k))

unfoldable pub image_at : List ℕ → ℕ → Image → Image
image_at file k im = due_image file k im (due_at file (76 * k))

-- the columns of the n records from record k on
unfoldable pub columns_over : List ℕ → ℕ → ℕ → Image → List State
columns_over file zero k im = []
columns_over file (suc n) k im = columns_at file k im ++ columns_over file n (suc k) (image_at file k im)
