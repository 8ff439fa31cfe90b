use Rattle.operator.proofs.Passes.{direction-done}
use Rattle.operator.proofs.direction_step.Goals as goal

pub returns : goal.returns
returns c = search direction-done
