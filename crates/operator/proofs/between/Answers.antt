use Rattle.operator.proofs.Passes.{between_is}
use Rattle.operator.proofs.between.Goals as goal

pub returns : goal.returns
returns c = search between_is
