-- The one claim: each of the marked cases holds. Each is computed from the definitions, but for (i), which is a law of every generator.
-- Assumes nothing.
use mathlib.Core.Path.{refl}
use Rattle.octets.specs.Bits.{value}
use Rattle.turning.specs.Turned.{turned_of}
use Rattle.register.proofs.Steps.{one_bit}
use Rattle.field_length.specs.FieldLength.{length_after_ones, limit_of, length_after_closing}
use Rattle.position.specs.Position.{x_after}
use Rattle.diagram.specs.Diagram.{longer, closed, full, columns, lays, arc_bits}
use Rattle.diagram.specs.Decoder.{onto, begin, shut, bit, finish, follow, decode_from, starts, decode_at, decode}
use Rattle.words.specs.Words.{pels_of_words, row_of, alternates, fits, ends_black, line_allowed, all_allowed, cut_from, lines_of_words as wordsSay}
use Rattle.cases.specs.Marked.{Each, marked}

pub each_marked : Each marked
unfolding value turned_of x_after length_after_ones limit_of length_after_closing longer closed full lays columns arc_bits onto begin shut bit finish follow decode_from starts decode_at decode pels_of_words row_of alternates fits ends_black line_allowed all_allowed cut_from wordsSay
each_marked = (refl, (refl, ((λ b h k. refl), ((λ b h k w l m. refl), ((λ b h k w l m. refl), ((λ b h k w l m. refl), ((λ b h k. refl), ((λ b h k. refl), ((λ w h k. refl), (refl, (one_bit, (refl, tt))))))))))))
