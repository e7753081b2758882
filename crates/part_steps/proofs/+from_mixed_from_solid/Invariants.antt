use Prim.Native.Nat.{◌-◌}
use Rattle.diagram.specs.Diagram.{at, run}
use Rattle.part_steps.proofs.StepReader.{Goes}
use Rattle.part_steps.proofs.+from_mixed_from_solid.Given as goal

-- each reader is called with fewer bits left
abbrev pub decreases-from_mixed : goal.decreases-from_mixed
decreases-from_mixed l = l.count - l.p.bits.0

abbrev pub decreases-from_solid : goal.decreases-from_solid
decreases-from_solid l = l.count - l.p.bits.0

abbrev pub invariant-from_mixed-loop-state : goal.invariant-from_mixed-loop-state
invariant-from_mixed-loop-state l = Goes l.octets l.from l.count (at l.initial.state) l.initial.q l.initial.entries (at l.state) l.q l.entries

abbrev pub decreases-from_mixed-loop-state : goal.decreases-from_mixed-loop-state
decreases-from_mixed-loop-state l = l.count - l.q.bits.0

abbrev pub invariant-from_solid-loop-word : goal.invariant-from_solid-loop-word
invariant-from_solid-loop-word l = Goes l.octets l.from l.count (run l.initial.word l.initial.state) l.initial.q l.initial.entries (run l.word l.state) l.q l.entries

abbrev pub decreases-from_solid-loop-word : goal.decreases-from_solid-loop-word
decreases-from_solid-loop-word l = l.count - l.q.bits.0
