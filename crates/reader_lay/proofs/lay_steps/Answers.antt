-- `reader_lay::lay_steps` meets its contract: what is laid from here on is laid from the start on. Assumes nothing.
use mathlib.Core.Path.{refl}
use native.Mathlib.Omega.{arith}
use Rattle.reader_lay.proofs.Lays.{entry_room, along_next, along_end}
use Rattle.reader_lay.proofs.lay_steps.Goals as goal

pub lay-next-requires : goal.lay-next-requires
lay-next-requires c = let l : _ = c.loop-step in (entry_room c.args.entries.now l.step-index _ (omega arith) refl l.invariant.room, l.invariant.column, omega arith)

pub loop-step-preserved : goal.loop-step-preserved
loop-step-preserved c = let l : _ = c.loop-step in let m : _ = c.lay-next in along_next l.invariant _ (omega arith) refl m.ensures.0 m.ensures.1 m.auto.out

pub returns : goal.returns
returns c = let i : _ = c.loop-step.invariant in along_end i (omega (arith, i.within))
