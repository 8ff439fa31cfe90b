use Rattle.cholesky.proofs.Updates.{two-done}
use Rattle.cholesky.proofs.update_two.Goals as goal

pub returns : goal.returns
returns c = search two-done
