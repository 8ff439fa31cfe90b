use Rattle.operator.proofs.Passes.{weighted-is}
use Rattle.operator.proofs.weighted.Goals as goal

pub returns : goal.returns
returns c = let w = rw c.shape.ensures.value at c.row_weight.ensures in search weighted-is
