-- The decoder, as a function that takes one bit at a time. Assumes nothing.
use Rattle.std.specs.Prelude.{Bool, true, false, List, [], ◌∷◌, ◌++◌, ℕ, zero, suc, pred, ◌+◌, length}
use Rattle.octets.specs.Bits.{Bit, O, I, value}
use Rattle.state.specs.declared.Mixed.TheVariants.{WB, BW}
use Rattle.state.specs.declared.Solid.{Solid}
use Rattle.state.specs.declared.Solid.TheVariants.{WW, BB}
use Rattle.state.specs.declared.State.TheVariants.{Solid as solid, Mixed as mixed}
use Rattle.diagram.specs.declared.End.{End}
use Rattle.diagram.specs.declared.End.TheVariants.{Open}
use Rattle.diagram.specs.declared.Context.{Context}
use Rattle.diagram.specs.declared.Start.{Start}
use Rattle.field_length.specs.declared.Nth.{Nth}
use Rattle.field_length.specs.declared.Nth.TheVariants.{First, Later}
use Rattle.diagram.specs.Diagram.{other, length_of, after_move, longer, closed, full, Place, at, run, out, enter, Step, move, word, step_bits, end_at}

-- How a reading stops: at a place, or open, after a single 1 out of a solid state.
pub data Stop : Type 0 where
  stopped : Place → Stop
  opened : Solid → Stop

-- No reading, and how many bits the longest beginning has that has one; or the steps of a reading (the open one left out), how it stops, and the
-- context then (an open column counts as laid).
pub data Answer : Type 0 where
  refused : ℕ → Answer
  read : List Step → Stop → Context → Answer

-- One step more in front.
unfoldable pub onto : Step → Answer → Answer
onto s (refused k) = refused (length (step_bits s) + k)
onto s (read ss e c) = read (s ∷ ss) e c

-- Where the decoder stands: a place, and the bits since then of a step that is not certain yet.
pub data DecoderState : Type 0 where
  bw bw0 bw01 bw010 bw011 : DecoderState
  wb wb1 wb10 wb100 wb101 : DecoderState
  afterClosing afterOne : Solid → DecoderState
  part : Nth → Solid → List Bit → ℕ → DecoderState

-- At the head of a word.
unfoldable pub begin : Nth → Solid → Context → DecoderState
begin k s c = part k s [] (pred (length_of s c.lengths))

-- What one bit leads to. Where it stops, so many of the bits since the place are read still.
pub data BitEffect : Type 0 where
  stop : ℕ → BitEffect
  pass : DecoderState → BitEffect
  note : Step → DecoderState → Context → BitEffect

unfoldable pub shut : Bool → Nth → Solid → List Bit → Context → BitEffect
shut true k s w c = note (word s w) (begin Later s (longer s (value w) c)) (longer s (value w) c)
shut false k s w c = note (word s w) (afterClosing s) (closed k s (value w) c)

unfoldable pub bit : DecoderState → Context → Bit → BitEffect
bit bw c O = pass bw0
bit bw c I = stop 0
bit bw0 c O = note (move (mixed BW) (mixed BW)) bw0 (after_move c)
bit bw0 c I = pass bw01
bit bw01 c O = pass bw010
bit bw01 c I = pass bw011
bit bw010 c O = note (move (mixed BW) (solid WW)) (begin First WW (after_move c)) (after_move c)
bit bw010 c I = note (move (mixed BW) (mixed WB)) wb1 (after_move c)
bit bw011 c O = stop 1
bit bw011 c I = note (move (mixed BW) (solid BB)) (begin First BB (after_move c)) (after_move c)
bit wb c O = stop 0
bit wb c I = pass wb1
bit wb1 c O = pass wb10
bit wb1 c I = note (move (mixed WB) (mixed WB)) wb1 (after_move c)
bit wb10 c O = pass wb100
bit wb10 c I = pass wb101
bit wb100 c O = note (move (mixed WB) (solid WW)) (begin First WW (after_move c)) (after_move c)
bit wb100 c I = stop 1
bit wb101 c O = note (move (mixed WB) (mixed BW)) bw0 (after_move c)
bit wb101 c I = note (move (mixed WB) (solid BB)) (begin First BB (after_move c)) (after_move c)
bit (afterClosing s) c O = note (move (solid s) (solid (other s))) (begin First (other s) (after_move c)) (after_move c)
bit (afterClosing s) c I = pass (afterOne s)
bit (afterOne s) c O = note (move (solid s) (mixed BW)) bw0 (after_move c)
bit (afterOne s) c I = note (move (solid s) (mixed WB)) wb1 (after_move c)
bit (part k s w (suc n)) c b = pass (part k s (w ++ b ∷ []) n)
bit (part k s w zero) c b = shut (full (length_of s c.lengths) (value (w ++ b ∷ []))) k s (w ++ b ∷ []) c

-- What the end of the bits leads to.
unfoldable pub finish : DecoderState → Context → Answer
finish bw c = read [] (stopped (at BW)) c
finish bw0 c = read (move (mixed BW) (mixed BW) ∷ []) (stopped (at BW)) (after_move c)
finish bw01 c = refused 1
finish bw010 c = read (move (mixed BW) (mixed WB) ∷ []) (stopped (at WB)) (after_move c)
finish bw011 c = refused 1
finish wb c = read [] (stopped (at WB)) c
finish wb1 c = read (move (mixed WB) (mixed WB) ∷ []) (stopped (at WB)) (after_move c)
finish wb10 c = refused 1
finish wb100 c = refused 1
finish wb101 c = read (move (mixed WB) (mixed BW) ∷ []) (stopped (at BW)) (after_move c)
finish (afterClosing s) c = read [] (stopped (out s)) c
finish (afterOne s) c = read [] (opened s) (after_move c)
finish (part k s [] n) c = read [] (stopped (run k s)) c
finish (part k s (b ∷ w) n) c = refused 0

-- What a bit leads to, where `go` decodes the bits after it.
unfoldable pub follow : BitEffect → Context → (DecoderState → Context → Answer) → Answer
follow (stop k) c go = refused k
follow (pass d) c go = go d c
follow (note s d e) c go = onto s (go d e)

unfoldable pub decode_from : List Bit → DecoderState → Context → Answer
decode_from [] d c = finish d c
decode_from (b ∷ bs) d c = follow (bit d c b) c (λ e f. decode_from bs e f)

unfoldable pub starts : Place → Context → DecoderState
starts (at BW) c = bw
starts (at WB) c = wb
starts (run k s) c = begin k s c
starts (out s) c = afterClosing s

-- from a place and a context
unfoldable pub decode_at : Place → Context → List Bit → Answer
decode_at p c bs = decode_from bs (starts p c) c

-- from a start
unfoldable pub decode : Start → List Bit → Answer
decode a bs = decode_at (enter a.state) a.context bs

-- where an answer says that a reading ends
abbrev pub end_of : Stop → End
end_of (stopped q) = end_at q
end_of (opened s) = Open
