-- The call on one data part: its reply and its output, together; and demand 3 of it. Assumes nothing.
use Rattle.std.specs.Prelude.{◌≡◌, Bool, false, cond, List, map, ℕ, ◌*◌, min, ltb, leb, length, Result, Ok, Err}
use Rattle.octets.specs.Bits.{Bit, bits_from}
use Rattle.refusal.specs.declared.Reason.TheVariants.{CountTooLarge, SizeNotAllowed, HeaderDisagrees}
use Rattle.state.specs.declared.State.{State}
use Rattle.state.specs.Pels.{pels_of}
use Rattle.diagram.specs.declared.End.{End}
use Rattle.position.specs.Position.{last_column}
use Rattle.diagram.specs.declared.Lengths.{Lengths}
use Rattle.diagram.specs.declared.Start.{Start}
use Rattle.diagram.specs.Diagram.{columns}
use Rattle.diagram.specs.Decoder.{end_of, Answer, refused, read, decode}
use Rattle.refusal.specs.Reply.{refuses_at, Outcome, delivered, if_valid, valid}
use Rattle.diagram.specs.Demand3.{Demand3}
use Rattle.part_notes.specs.declared.PartReading.{PartReading}
use Rattle.refusal.specs.declared.Reason.{Reason}

unfoldable pub length_allowed : ℕ → Bool
length_allowed n = cond (ltb n 2) false (leb n 7)

unfoldable pub lengths_allowed : Lengths → Bool
lengths_allowed l = cond (length_allowed l.black) (length_allowed l.white) false

-- judged before the bits are looked at, of a data part and of an image frame: the count, then the lengths
unfoldable pub sizes_validity : List ℕ → ℕ → Lengths → Result Unit Reason
sizes_validity s count l = cond (ltb (min 512 (8 * length s)) count) (Err CountTooLarge) (cond (lengths_allowed l) valid (Err SizeNotAllowed))

-- and of a data part alone X, which may be from 0 to 1725
abbrev pub x_judged : Result Unit Reason → ℕ → Result Unit Reason
x_judged (Err reason) x = Err reason
x_judged (Ok _) x = cond (ltb last_column x) (Err HeaderDisagrees) valid

unfoldable pub part_validity : List ℕ → ℕ → Start → Result Unit Reason
part_validity s count a = x_judged (sizes_validity s count a.context.lengths) a.context.x

abbrev pub octets_of : List State → List ℕ
octets_of cs = map pels_of cs

-- a reply with these columns, which are written as octets, where there is room
abbrev pub written : List State → ℕ → End → Lengths → List ℕ → Outcome PartReading ℕ
written cs bits e l o = delivered (record { bits = record { 0 = bits }; columns = record { 0 = length cs }; end = e; lengths = l }) 0 (octets_of cs) o

abbrev pub answered : ℕ → Answer → List ℕ → Outcome PartReading ℕ
answered count (refused k) o = (refuses_at 11 0 k, o)
answered count (read ss e c) o = written (columns ss) count (end_of e) c.lengths o

-- reply and output, from the output that was: 8, 9, 10, then 11, then 16
unfoldable pub read_part : List ℕ → ℕ → Start → List ℕ → Outcome PartReading ℕ
read_part s count a o = if_valid (part_validity s count a) (answered count (decode a (bits_from s 0 count)) o) o

-- Demand 3 of the call: it refuses by 11 exactly when there is no reading, with the length of the longest beginning that has one; else columns,
-- number, end and lengths are any reading's, where the output has room for the columns.
abbrev pub CallReads : Start → List Bit → List ℕ → Outcome PartReading ℕ → Type 0
CallReads a bs o r = Demand3 a bs (λ k. r.0 ≡ refuses_at 11 0 k) (λ cs e l. r ≡ written cs (length bs) e l o)
