-- What the readers of steps promise: the decoder's answer, as progress and entries. Assumes nothing.
use Rattle.std.specs.Prelude.{◌≡◌, List, map, ℕ, ◌+◌, ◌*◌, ◌-◌, ◌^◌, ◌≤◌, ◌<◌, length, Result, Ok, Err}
use Rattle.octets.specs.Bits.{Bit, bits_from}
use Rattle.basics.specs.Placed.{placed}
use Rattle.diagram.specs.Diagram.{ValidContext, columns}
use Rattle.diagram.specs.Decoder.{end_of, Answer, refused, read}
use Rattle.part_notes.specs.declared.PartProgress.{PartProgress}
use Rattle.part_notes.specs.Notes.{entry_of}
use Rattle.diagram.specs.declared.Bits.{Bits}
use Rattle.part_notes.specs.declared.StepsRead.{StepsRead}

-- the decoder's answer, after this progress: no reading, and a beginning of so many bits more that has one; or a reading
unfoldable pub step_result : ℕ → PartProgress → Answer → Result StepsRead Bits
step_result count p (refused k) = Err (record { 0 = p.bits.0 + k })
step_result count p (read ss e c) = Ok (record {
  entries = p.entries + length ss;
  reading = record { bits = record { 0 = count }; columns = record { 0 = p.columns.0 + length (columns ss) }; end = end_of e; lengths = c.lengths };
})

-- behind n entries stand those of the answer's steps, and nothing else is changed; of a refusal nothing is said
abbrev pub Noted : ℕ → Answer → List ℕ → List ℕ → Type 0
Noted n (refused k) es es₀ = Unit {0}
Noted n (read ss e c) es es₀ = es ≡ placed n (map entry_of ss) es₀

pub record ReadsSteps (count : ℕ) (p : PartProgress) (a : Answer) (r : Result StepsRead Bits) (es es₀ : List ℕ) : Type 0 where
  pub is : r ≡ step_result count p a
  pub noted : Noted p.entries a es es₀

-- the bits that are left
abbrev pub rest : List ℕ → ℕ → ℕ → PartProgress → List Bit
rest s from count p = bits_from s (from + p.bits.0) (count - p.bits.0)

-- what a reader of steps is called with: there is room for as many entries as there are bits
pub record Ready (room from count : ℕ) (p : PartProgress) : Type 0 where
  pub place : from < 2 ^ 62
  pub bits : count ≤ 512
  pub fits : count ≤ room
  pub taken : p.bits.0 ≤ count
  pub fewer : p.entries ≤ p.bits.0
  pub laid : p.columns.0 ≤ 127 * p.bits.0
  pub valid : ValidContext p.context
