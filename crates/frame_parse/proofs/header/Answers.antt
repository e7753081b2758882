-- `frame_parse::header` meets its contract. Assumes nothing.
use mathlib.Core.Path.{◌∙◌, ap}
use Rattle.state.specs.Pels.{state_of}
use Rattle.frame.specs.Layout.{header_of}
use Rattle.frame_parse.proofs.header.Goals as goal

pub returns : goal.returns
unfolding header_of
returns c = λ i. record {
  sequence = c.number.ensures.0 i;
  count = c.field.ensures.0 i;
  x = c.field-2.ensures.0 i;
  black = c.field-3.ensures.0 i;
  white = c.field-4.ensures.0 i;
  state = (c.with_pels.ensures ∙ ap state_of c.number-2.ensures.0) i;
}
