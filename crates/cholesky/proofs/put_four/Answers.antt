use Rattle.cholesky.proofs.Fours.{stored-done}
use Rattle.cholesky.proofs.put_four.Goals as goal

pub returns : goal.returns
returns c = search stored-done
