-- `records::frame_of` meets its contract. Assumes nothing.
use mathlib.Core.Path.{ap, ◌∙◌}
use Rattle.frame.specs.Layout.{parsed}
use Rattle.records.proofs.frame_of.Goals as goal

pub returns : goal.returns
returns c =
    let sent : _ = c.sent_frame-octets.ensures in
    λ i. record { octets = sent i; taken = (c.parse-taken.ensures ∙ ap (parsed _ _) sent) i }
