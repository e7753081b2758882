-- `part_steps::steps` meets its contract: the reader of the state's kind begins. Assumes nothing.
use Rattle.state.specs.declared.State.TheVariants.{Solid as solid, Mixed as mixed}
use Rattle.part_steps.proofs.StepReader.{whole_part}
use Rattle.part_steps.proofs.steps.Goals as goal

pub returns-in-Mixed : goal.returns-in-Mixed
returns-in-Mixed c = whole_part _ _ _ _ (mixed _) _ _ _ c.in-Mixed.is c.from_mixed.ensures

pub returns-in-Solid : goal.returns-in-Solid
returns-in-Solid c = whole_part _ _ _ _ (solid _) _ _ _ c.in-Solid.is c.from_solid.ensures
