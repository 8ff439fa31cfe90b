use Rattle.cholesky.proofs.Fours.{taken-done}
use Rattle.cholesky.proofs.take_four.Goals as goal

pub returns : goal.returns
returns c = search taken-done
