use Rattle.reader_lay.proofs.Lays.{Along}
use Rattle.reader_lay.proofs.lay_steps.Given as goal

abbrev pub invariant-loop-step : goal.invariant-loop-step
invariant-loop-step l = Along l.initial.next l.next l.entries l.step-index l.initial.out l.out
