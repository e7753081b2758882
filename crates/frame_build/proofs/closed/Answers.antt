-- `frame_build::closed` meets its contract. Assumes nothing.
use mathlib.Core.Path.{ap, ◌∙◌}
use Rattle.octets.specs.Bits.{put_bits}
use Rattle.turning.specs.Turned.{turned_from}
use Rattle.frame.specs.Layout.{check_bits, closed_frame}
use Rattle.frame_build.proofs.closed.Goals as goal

pub returns : goal.returns
unfolding closed_frame
returns c =
    let a : _ = c.args in
    c.turned.ensures ∙ ap (λ s. turned_from s 0 74) (c.put_check.ensures ∙ ap (λ n. put_bits a.front 573 (check_bits a.checker.now.setting.order n)) c.frame_check-check.ensures.0)
