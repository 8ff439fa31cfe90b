use Rattle.dense.proofs.Solving.{dense-done}
use Rattle.dense.proofs.solve_dense.Goals as goal

pub returns : goal.returns
returns c = search dense-done
