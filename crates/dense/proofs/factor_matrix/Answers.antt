use Rattle.dense.proofs.Solving.{factored}
use Rattle.dense.proofs.factor_matrix.Goals as goal

pub returns : goal.returns
returns c = search factored
