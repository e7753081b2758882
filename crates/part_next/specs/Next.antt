-- What is said by the bits that come next: the decoder answers with this step, and goes on behind it. Assumes nothing.
use Rattle.std.specs.Prelude.{◌≡◌, List, [], ℕ, zero, suc, ◌≤◌, ◌<◌, length, take, drop, Option, Some, None, Result, Ok, Err}
use Rattle.octets.specs.Bits.{Bit, value}
use Rattle.state.specs.declared.Mixed.{Mixed}
use Rattle.state.specs.declared.Mixed.TheVariants.{WB, BW}
use Rattle.state.specs.declared.Solid.{Solid}
use Rattle.state.specs.declared.Solid.TheVariants.{WW, BB}
use Rattle.state.specs.declared.State.{State}
use Rattle.state.specs.declared.State.TheVariants.{Solid as solid, Mixed as mixed}
use Rattle.diagram.specs.declared.Context.{Context}
use Rattle.field_length.specs.declared.Nth.{Nth}
use Rattle.field_length.specs.declared.Nth.TheVariants.{Later}
use Rattle.diagram.specs.Diagram.{ValidLengths, after_columns, after_move, cross, other, Place, at, run, out, move, word, enter}
use Rattle.diagram.specs.Decoder.{stopped, opened, Answer, refused, read, onto, decode_at}
use Rattle.part_next.specs.declared.MixedMove.{MixedMove}
use Rattle.part_next.specs.declared.MixedMove.TheVariants.{Stay, Cross, Leave}
use Rattle.part_next.specs.declared.Fetched.{Fetched}
use Rattle.part_next.specs.declared.Word.{Word}
use Rattle.part_next.specs.declared.Word.TheVariants.{Ones, Closing}
use Rattle.part_next.specs.declared.SolidMove.{SolidMove}
use Rattle.part_next.specs.declared.SolidMove.TheVariants.{ToSolid, ToMixed, Open as OpenWay}
use Rattle.diagram.specs.declared.Bits.{Bits}

-- the first bit of the arcs out of a mixed state, as a number
abbrev pub own : Mixed → ℕ
own BW = 0
own WB = 1

-- the solid state that the last bit of an arc of four says
abbrev pub solid_of : ℕ → Solid
solid_of zero = WW
solid_of (suc n) = BB

-- what the decoder answers where a move of k bits from a state to a state comes first
abbrev pub taking : State → State → ℕ → Context → List Bit → Answer
taking a b k c bs = onto (move a b) (decode_at (enter b) (after_move c) (drop k bs))

-- the bits of a move; where there is none, those that have a reading still
abbrev pub move_bits : Result MixedMove Bits → ℕ
move_bits (Ok Stay) = 1
move_bits (Ok Cross) = 3
move_bits (Ok (Leave s)) = 4
move_bits (Err k) = k.0

abbrev pub moved : Mixed → Result MixedMove Bits → Context → List Bit → Answer
moved m (Ok Stay) c bs = taking (mixed m) (mixed m) 1 c bs
moved m (Ok Cross) c bs = taking (mixed m) (mixed (cross m)) 3 c bs
moved m (Ok (Leave s)) c bs = taking (mixed m) (solid s) 4 c bs
moved m (Err k) c bs = refused k.0

-- bits out of a mixed state say this move
pub record Moves (m : Mixed) (bs : List Bit) (r : Result MixedMove Bits) : Type 0 where
  pub is : (c : Context) → decode_at (at m) c bs ≡ moved m r c bs
  pub enough : move_bits r ≤ length bs

-- what the decoder answers where a word comes first, before a place
abbrev pub wording : Solid → Place → Fetched → Context → List Bit → Answer
wording s q f c bs = onto (word s (take f.bits.0 bs)) (decode_at q (after_columns f.columns.0 f.lengths c) (drop f.bits.0 bs))

-- a word fetched from the front of the bits
pub record AtFront (bs : List Bit) (f : Fetched) : Type 0 where
  pub few : f.bits.0 ≤ 7
  pub some : 2 ≤ f.bits.0
  pub enough : f.bits.0 ≤ length bs
  pub value_is : f.columns.0 ≡ value (take f.bits.0 bs)
  pub below : f.columns.0 < 128
  pub valid : ValidLengths f.lengths

abbrev pub worded : Solid → Option Word → Context → List Bit → Answer
worded s (Some (Ones f)) c bs = wording s (run Later s) f c bs
worded s (Some (Closing f)) c bs = wording s (out s) f c bs
worded s None c bs = refused 0

abbrev pub Front : Option Word → List Bit → Type 0
Front (Some (Ones f)) bs = AtFront bs f
Front (Some (Closing f)) bs = AtFront bs f
Front None bs = Unit {0}

-- bits in a run say this word
pub record Words (k : Nth) (s : Solid) (c : Context) (bs : List Bit) (r : Option Word) : Type 0 where
  pub is : decode_at (run k s) c bs ≡ worded s r c bs
  pub front : Front r bs

abbrev pub solid_move_bits : Option SolidMove → ℕ
solid_move_bits (Some ToSolid) = 1
solid_move_bits (Some (ToMixed m)) = 1
solid_move_bits (Some OpenWay) = 0
solid_move_bits None = 0

abbrev pub left : Solid → Option SolidMove → Context → List Bit → Answer
left s (Some ToSolid) c bs = taking (solid s) (solid (other s)) 1 c bs
left s (Some (ToMixed m)) c bs = taking (solid s) (mixed m) 1 c bs
left s (Some OpenWay) c bs = read [] (opened s) (after_move c)
left s None c bs = read [] (stopped (out s)) c

-- bits out of a solid state say this one
pub record Leaves (bs : List Bit) (r : Option SolidMove) : Type 0 where
  pub is : (s : Solid) (c : Context) → decode_at (out s) c bs ≡ left s r c bs
  pub enough : solid_move_bits r ≤ length bs
