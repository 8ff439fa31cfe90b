use Rattle.operator.proofs.Passes.{bearing-done}
use Rattle.operator.proofs.bearing_step.Goals as goal

pub returns : goal.returns
returns c = search bearing-done
