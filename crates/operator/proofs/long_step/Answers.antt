use Rattle.operator.proofs.Passes.{mean-taken}
use Rattle.operator.proofs.long_step.Goals as goal

pub returns : goal.returns
returns c = search mean-taken
