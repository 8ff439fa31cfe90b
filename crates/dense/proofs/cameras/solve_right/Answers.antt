use Rattle.dense.proofs.Solving.{right-solved}
use Rattle.dense.proofs.cameras.solve_right.Goals as goal

pub returns : goal.returns
returns c = search right-solved
