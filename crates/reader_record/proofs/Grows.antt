-- What a record adds to the image. Assumes nothing.
use mathlib.Core.Path.{◌≡◌, refl}
use mathlib.Core.Bool.{Bool, true, false, cond}
use mathlib.Core.List.{List, [], ◌++◌}
use Prim.Native.Nat.{ℕ, ◌+◌, ◌*◌, ◌≤◌, ◌<◌}
use native.Mathlib.Omega.{arith}
use lib.Dec.{eqb}
use lib.ListN.{length, length-append}
use Rattle.state.specs.declared.State.{State}
use Rattle.frame.specs.declared.Header.{Header}
use Rattle.frame.specs.Layout.{header_of}
use Rattle.diagram.specs.declared.End.{End}
use Rattle.diagram.specs.declared.End.TheVariants.{At, Closed, Open}
use Rattle.diagram.specs.Decoder.{Answer, refused, read}
use Rattle.chain.specs.declared.Image.{Image}
use Rattle.position.specs.Position.{pels_per_line, columns_before}
use Rattle.position.proofs.Positions.{count_after, column_small}
use Rattle.frame.specs.declared.FrameKind.TheVariants.{SetUp, Data}
use Rattle.records.specs.declared.Kind.TheVariants.{Frame, End as Ends}
use Rattle.records.specs.Records.{due_at, sent_at}
use Rattle.chain.specs.Chain.{open_in, opening, columns_in, frame_judged, image_after, chained_if, chained, reading_of, columns_if, frame_columns}
use Rattle.reader_record.specs.Record.{due_columns, columns_at}
use Rattle.reader_record.specs.LayingPass.{image_in, image_by, due_image, image_at}
use Rattle.chain.proofs.Linked.{fine_header, few_read}
use Rattle.chain.proofs.Columns.{length_opening}
use Rattle.std.specs.Prelude.{Result, Ok, Err}
use Rattle.records.specs.declared.Kind.{Kind}
use Rattle.refusal.specs.declared.Reason.{Reason}

pub record Grows (im after : Image) (cs : List State) : Type 0 where
  pub bits : after.bits.0 ≤ im.bits.0 + 512
  pub columns : columns_before after.position ≡ columns_before im.position + length cs
  pub few : length cs ≤ 9272
  pub column : im.position.column < pels_per_line → after.position.column < pels_per_line

same_grows : (im : Image) → Grows im im []
same_grows im = record { bits = omega arith; columns = omega arith; few = omega arith; column = λ h. h }

open_few : (e : End) → open_in e ≤ 1
open_few (At s) = omega arith
open_few (Closed s) = omega arith
open_few Open = omega arith

frame_grows : (im : Image) (h : Header) (s : List ℕ) → Grows im (image_by im h s) (frame_columns im h s)
unfolding image_by frame_columns chained
frame_grows im h s = go (frame_judged im h s) (reading_of im h s) refl refl
  where
    go : (j : Result Unit Reason) (a : Answer) → frame_judged im h s ≡ j → reading_of im h s ≡ a →
        Grows im (image_in im (chained_if j (image_after im h.count a))) (columns_if (chained_if j (image_after im h.count a)) (opening im.end h.state ++ columns_in a))
    go (Err reason) a f r = same_grows im
    go (Ok _) (refused k) f r = same_grows im
    go (Ok _) (read ss e l) f r = record {
      bits = omega (arith, (fine_header im h s f).0);
      columns = simp length-append (omega (arith, length_opening im.end h.state, count_after (columns_before im.position + (open_in im.end + length (Rattle.diagram.specs.Diagram.columns ss)))));
      few = simp length-append (omega (arith, length_opening im.end h.state, open_few im.end, few_read im h s f r));
      column = λ h. column_small (columns_before im.position + (open_in im.end + length (Rattle.diagram.specs.Diagram.columns ss)));
    }

pub record_grows : (file : List ℕ) (k : ℕ) (im : Image) → Grows im (image_at file k im) (columns_at file k im)
unfolding image_at columns_at
record_grows file k im = go (due_at file (76 * k))
  where
    counted : (t : Bool) (h : Header) (s : List ℕ) → Grows im (cond t im (image_by im h s)) (cond t [] (frame_columns im h s))
    counted true h s = same_grows im
    counted false h s = frame_grows im h s

    go : (d : Result Kind Reason) → Grows im (due_image file k im d) (due_columns file k im d)
    go (Err reason) = same_grows im
    go (Ok (Frame SetUp)) = same_grows im
    go (Ok Ends) = same_grows im
    go (Ok (Frame Data)) = counted (eqb (header_of (sent_at file k)).count 0) (header_of (sent_at file k)) (sent_at file k)
