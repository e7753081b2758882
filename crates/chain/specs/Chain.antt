-- The chain of image frames: each header against the reading so far, each data part read from its header. Assumes nothing.
use Rattle.std.specs.Prelude.{◌≡◌, Bool, true, false, cond, ◌&&◌, ◌||◌, List, [], ◌∷◌, ◌++◌, map, ℕ, ◌+◌, ◌≤◌, eqb, length, take, Result, Ok, Err}
use Rattle.octets.specs.Bits.{bits_from}
use Rattle.refusal.specs.declared.Reason.TheVariants.{HeaderDisagrees, FrameAfterClosingWord}
use Rattle.refusal.specs.Fault.{fault_of, no_reading}
use Rattle.state.specs.declared.Solid.TheVariants.{WW}
use Rattle.state.specs.declared.State.{State}
use Rattle.state.specs.declared.State.TheVariants.{Solid as solid, Mixed as mixed}
use Rattle.state.specs.Pels.{pels_of}
use Rattle.frame.specs.declared.Header.{Header}
use Rattle.diagram.specs.declared.End.{End}
use Rattle.diagram.specs.declared.End.TheVariants.{At, Closed, Open}
use Rattle.diagram.specs.declared.Lengths.{Lengths}
use Rattle.diagram.specs.declared.Start.{Start}
use Rattle.diagram.specs.Diagram.{columns}
use Rattle.diagram.specs.Decoder.{Answer, refused, read, decode, end_of}
use Rattle.part_notes.specs.Notes.{spread}
use Rattle.part.specs.Call.{sizes_validity}
use Rattle.position.specs.Position.{advanced, last_x}
use Rattle.chain.specs.declared.Image.{Image}
use Rattle.chain.specs.declared.NextImage.{NextImage}
use Rattle.refusal.specs.declared.Fault.{Fault}
use Rattle.refusal.specs.declared.Reason.{Reason}
use Rattle.refusal.specs.Reply.{valid}

-- before the first image frame: it must say WW, 7, 7
abbrev pub blank : Image
blank = record { bits = record { 0 = 0 }; position = record { pair = 0; column = 0 }; end = At (solid WW); lengths = record { black = 7; white = 7 } }

-- the columns left open
abbrev pub open_in : End → ℕ
open_in (At s) = 0
open_in (Closed s) = 0
open_in Open = 1

-- the state that the reading stands in; an open column is mixed, and the header says which
abbrev pub states_agree : End → State → Bool
states_agree (At s) t = eqb (pels_of s) (pels_of t)
states_agree (Closed s) t = false
states_agree Open (solid s) = false
states_agree Open (mixed m) = true

-- X before the next frame: the index of the last column laid, where an open one counts as laid; 1725 before the first
abbrev pub x_before : Image → ℕ
x_before im = last_x (advanced im.position (open_in im.end))

-- at the first image frame X is not compared
abbrev pub x_agrees : Image → ℕ → Bool
x_agrees im x = eqb im.bits.0 0 || eqb x (x_before im)

unfoldable pub agrees : Image → Header → Bool
agrees im h = states_agree im.end h.state && (eqb h.black im.lengths.black && (eqb h.white im.lengths.white && x_agrees im h.x))

abbrev pub is_closed : End → Bool
is_closed (At s) = false
is_closed (Closed s) = true
is_closed Open = false

-- the lengths that a header says
abbrev pub sizes_of : Header → Lengths
sizes_of h = record { black = h.black; white = h.white }

-- an image frame's header: 8 and 9 as one data part judges them, then 12, then 10
abbrev pub linked : Result Unit Reason → Image → Header → Result Unit Reason
linked (Err reason) im h = Err reason
linked (Ok _) im h = cond (is_closed im.end) (Err FrameAfterClosingWord) (cond (agrees im h) valid (Err HeaderDisagrees))

unfoldable pub frame_judged : Image → Header → List ℕ → Result Unit Reason
frame_judged im h s = linked (sizes_validity s h.count (sizes_of h)) im h

-- where its data part is read from: the header's state and lengths, and X, which the header says too unless it is the first one's (Laws.StartX)
abbrev pub start_of : Image → Header → Start
start_of im h = record { state = h.state; context = record { lengths = sizes_of h; x = x_before im } }

-- the reading of its data part
unfoldable pub reading_of : Image → Header → List ℕ → Answer
reading_of im h s = decode (start_of im h) (bits_from s 61 h.count)

-- the image after it; 11 where there is no reading, with the length of the longest beginning that has one
abbrev pub image_after : Image → ℕ → Answer → Result NextImage Fault
image_after im count (refused k) = Err (no_reading k)
image_after im count (read ss e c) = Ok (record {
  image = record { bits = record { 0 = im.bits.0 + count }; position = advanced im.position (open_in im.end + length (columns ss)); end = end_of e; lengths = c.lengths };
  steps = length ss;
})

abbrev pub chained_if : Result Unit Reason → Result NextImage Fault → Result NextImage Fault
chained_if (Ok _) x = x
chained_if (Err reason) x = Err (fault_of reason)

unfoldable pub chained : Image → Header → List ℕ → Result NextImage Fault
chained im h s = chained_if (frame_judged im h s) (image_after im h.count (reading_of im h s))

-- ---- the columns that it lays

-- a column that was left open, in the state that the header says
abbrev pub opening : End → State → List State
opening (At s) t = []
opening (Closed s) t = []
opening Open t = t ∷ []

abbrev pub columns_in : Answer → List State
columns_in (refused k) = []
columns_in (read ss e c) = columns ss

-- none where it is refused
abbrev pub columns_if : Result NextImage Fault → List State → List State
columns_if (Ok g) cs = cs
columns_if (Err f) cs = []

unfoldable pub frame_columns : Image → Header → List ℕ → List State
frame_columns im h s = columns_if (chained im h s) (opening im.end h.state ++ columns_in (reading_of im h s))

-- ---- the entries that a reading leaves: as many as it has steps, and they say its columns

abbrev pub Held : Result NextImage Fault → Answer → List ℕ → Type 0
Held (Err f) a es = Unit {0}
Held (Ok g) a es = (spread (take g.steps es) ≡ map pels_of (columns_in a)) × (g.steps ≤ length es)

pub record Chains (im : Image) (h : Header) (s : List ℕ) (r : Result NextImage Fault) (es : List ℕ) : Type 0 where
  pub is : r ≡ chained im h s
  pub held : Held r (reading_of im h s) es
