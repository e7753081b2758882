-- `frame_build::set_up_frame` meets its contract. Assumes nothing.
use mathlib.Core.Path.{ap, ◌∙◌}
use Rattle.octets.specs.Bits.{put_bits}
use Rattle.frame.specs.Layout.{closed_frame, set_up_bits}
use Rattle.frame.proofs.Frames.{set_up_closed}
use Rattle.frame_build.proofs.set_up_frame.Goals as goal

pub returns : goal.returns
returns c =
    let a : _ = c.args in
    c.closed.ensures
    ∙ ap (closed_frame a.checker.now.setting) (c.put_set_up.ensures ∙ ap (λ s. put_bits s 24 (set_up_bits a.settings)) c.begun-s.ensures)
    ∙ set_up_closed a.checker.now.setting a.settings
