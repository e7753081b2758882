-- `capture_records::put_frame` meets its contract: the frame as it is stored, behind the command of the kind that was told of it. Assumes nothing.
use mathlib.Core.Path.{◌≡◌, refl, ◌∙◌}
use mathlib.Core.List.{List}
use Prim.Native.Nat.{ℕ}
use Rattle.turning.specs.Turned.{turned_from}
use Rattle.frame.specs.declared.FrameKind.{FrameKind}
use Rattle.frame.specs.Layout.{kind_of, record_of}
use Rattle.capture.specs.Extract.{record_of_frame}
use Rattle.capture_records.proofs.put_frame.Goals as goal

told_record : {k : FrameKind} {f sent stored : List ℕ} → sent ≡ f → stored ≡ turned_from sent 0 74 → k ≡ kind_of sent → record_of k stored ≡ record_of_frame f
told_record e g h = rw (h, g, e) refl

pub returns : goal.returns
returns c = rw (c.command_of.ensures _ ∙ told_record c.frame_at-sent.ensures c.turned-stored.ensures c.kind.ensures) at c.put_record.ensures
