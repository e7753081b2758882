-- Demand 3, whole: what holds of the readings of a string of bits, and what a reader of it owes. It holds for every starting state, every two
-- lengths from 2 to 7, every X from 0 to 1725 and every string, and the bound on columns for every string of up to 512 bits. Assumes nothing.
use Rattle.std.specs.Prelude.{◌≡◌, true, false, ◌↔◌, List, [], ◌∷◌, ◌++◌, ℕ, ◌≤◌, length}
use Rattle.octets.specs.Bits.{Bit}
use Rattle.state.specs.declared.Mixed.{Mixed}
use Rattle.state.specs.declared.Mixed.TheVariants.{WB, BW}
use Rattle.state.specs.declared.Solid.{Solid}
use Rattle.state.specs.declared.State.{State}
use Rattle.state.specs.declared.State.TheVariants.{Solid as solid, Mixed as mixed}
use Rattle.diagram.specs.declared.End.{End}
use Rattle.diagram.specs.declared.End.TheVariants.{Open}
use Rattle.position.specs.Position.{x_after}
use Rattle.diagram.specs.declared.Lengths.{Lengths}
use Rattle.diagram.specs.declared.Context.{Context}
use Rattle.diagram.specs.declared.Start.{Start}
use Rattle.diagram.specs.Diagram.{length_of, ValidContext, Step, move, Place, at, enter, Reading, ReadingFrom, Readable, LongestBeginning, columns, counted, last_enters_mixed, last_entered, standing, reading_end}
use Rattle.diagram.specs.Decoder.{Answer, refused, read, decode, end_of}

-- The exception: a last single 1 out of a solid state. There are exactly two readings, alike in all but the mixed state that this 1 enters.
pub record ExactlyTwo (a : Start) (bs : List Bit) : Type 0 where
  -- the steps before it, the solid state and the context at the end, which both share
  pub before : List Step
  pub from : Solid
  pub context : Context
  -- the 1 may enter either mixed state
  pub both : (k : Mixed) → ReadingFrom a (before ++ move (solid from) (mixed k) ∷ []) bs (at k) context
  -- these are two
  pub differ : before ++ move (solid from) (mixed BW) ∷ [] ≡ before ++ move (solid from) (mixed WB) ∷ [] → ⊥
  -- and there is no third
  pub only : {ss : List Step} {q : Place} {c : Context} → ReadingFrom a ss bs q c →
      (k : Mixed) × (ss ≡ before ++ move (solid from) (mixed k) ∷ []) × (q ≡ at k) × (c ≡ context)
  -- its column is open, and not among the columns
  pub column_open : (k : Mixed) → (reading_end (at k) (before ++ move (solid from) (mixed k) ∷ []) ≡ Open) × (counted (before ++ move (solid from) (mixed k) ∷ []) ≡ columns before)

-- Of a string of bits, from a start, and of what a reader answers: `refusedBy11 k` says that it refuses by 11 at bit k, and `answered cs e l` that it
-- accepts, with the columns cs in order and so with their number, the end e, and the lengths l.
pub record Demand3 (a : Start) (bs : List Bit) (refusedBy11 : ℕ → Type 0) (answered : List State → End → Lengths → Type 0) : Type 0 where
  -- any two readings have the same steps, and so the same end, lengths and X, unless the last step is a single 1 out of a solid state
  pub same : {ss ts : List Step} {q r : Place} {c d : Context} → last_enters_mixed ss ≡ false →
      ReadingFrom a ss bs q c → ReadingFrom a ts bs r d → (ts ≡ ss) × (r ≡ q) × (d ≡ c)
  pub two : {ss : List Step} {q : Place} {c : Context} → last_enters_mixed ss ≡ true → ReadingFrom a ss bs q c → ExactlyTwo a bs
  -- the empty string has a reading, and each of its readings has no steps, so no columns, and leaves the start as it was
  pub empty : bs ≡ [] → ReadingFrom a [] bs (enter a.state) a.context
  pub empty_only : bs ≡ [] → {ss : List Step} {q : Place} {c : Context} → ReadingFrom a ss bs q c → (ss ≡ []) × (q ≡ enter a.state) × (c ≡ a.context)
  -- the end state is the last one entered, or the starting one; the lengths are from 2 to 7, and X from 0 to 1725
  pub ends : {ss : List Step} {q : Place} {c : Context} → ReadingFrom a ss bs q c → standing q ≡ last_entered a.state ss
  pub within : {ss : List Step} {q : Place} {c : Context} → ReadingFrom a ss bs q c → ValidContext c
  -- the columns, one that is left open among them, are counted on from the starting X
  pub counts : {ss : List Step} {q : Place} {c : Context} → ReadingFrom a ss bs q c → c.x ≡ x_after a.context.x (length (columns ss))
  -- at most 9,271 columns
  pub few : length bs ≤ 512 → {ss : List Step} {q : Place} {c : Context} → ReadingFrom a ss bs q c → length (columns ss) ≤ 9271
  -- the reader refuses by 11 exactly when there is no reading
  pub refuses : ((k : ℕ) × refusedBy11 k) ↔ (Readable a bs → ⊥)
  -- its bit is then the length of the longest beginning that has a reading
  pub stops : {k : ℕ} → refusedBy11 k → LongestBeginning a bs k
  -- else it accepts; the columns in order, their number, the end state or open, and both lengths are those of any reading
  pub answers : {ss : List Step} {q : Place} {c : Context} → ReadingFrom a ss bs q c → answered (counted ss) (reading_end q ss) c.lengths

-- the decoder's answer has these columns, this end and these lengths
abbrev pub Has : Answer → List State → End → Lengths → Type 0
Has (refused k) cs e l = ⊥
Has (read ss x c) cs e l = (columns ss ≡ cs) × (end_of x ≡ e) × (c.lengths ≡ l)

-- The decoder is such a reader.
abbrev pub DecoderReads : Type 0
DecoderReads = (a : Start) (bs : List Bit) → ValidContext a.context → Demand3 a bs (λ k. decode a bs ≡ refused k) (Has (decode a bs))

-- ---- 9,271 columns are reached

-- some reading of n bits lays so many columns
pub data Attained (p : Place) (c : Context) (n columnsLaid : ℕ) : Type 0 where
  attained : {q : Place} {d : Context} {ss : List Step} {bs : List Bit} → Reading p c ss bs q d → length bs ≡ n → length (columns ss) ≡ columnsLaid → Attained p c n columnsLaid

-- from either solid state with a length of 7, whatever the other's and X are, by 511 bits and by 512
abbrev pub MostReached : Type 0
MostReached = (s : Solid) (c : Context) → length_of s c.lengths ≡ 7 → Attained (enter (solid s)) c 511 9271 × Attained (enter (solid s)) c 512 9271
