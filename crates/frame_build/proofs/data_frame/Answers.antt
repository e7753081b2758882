-- `frame_build::data_frame` meets its contract. Assumes nothing.
use mathlib.Core.Path.{ap, ◌∙◌}
use Rattle.octets.specs.Bits.{put_bits, bits_from}
use Rattle.octets.proofs.Fields.{length_bits}
use Rattle.frame.specs.Layout.{closed_frame, header_bits}
use Rattle.frame.proofs.Frames.{data_closed}
use Rattle.frame_build.proofs.data_frame.Goals as goal

pub returns : goal.returns
returns c =
    let a : _ = c.args in
    let ds : _ = bits_from a.«data».now 0 512 in
    c.closed.ensures
    ∙ ap (closed_frame a.checker.now.setting) (c.copy_bits.ensures ∙ ap (λ s. put_bits s 61 ds) (c.put_header.ensures ∙ ap (λ s. put_bits s 24 (header_bits a.h)) c.begun-s.ensures))
    ∙ data_closed a.checker.now.setting a.h ds (length_bits a.«data».now 0 512)
