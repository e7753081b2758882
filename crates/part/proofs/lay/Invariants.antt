use lib.ListN.{drop}
use Rattle.basics.proofs.Writing.{Left}
use Rattle.part_notes.specs.Notes.{spread}
use Rattle.part.proofs.lay.Given as goal

abbrev pub invariant-loop-entry : goal.invariant-loop-entry
invariant-loop-entry l = Left (spread l.entries) l.initial.columns (spread (drop l.entry-index l.entries)) l.columns
