use Rattle.cholesky.proofs.Fours.{quotients-done}
use Rattle.cholesky.proofs.solve_four.Goals as goal

pub returns : goal.returns
returns c = search quotients-done
