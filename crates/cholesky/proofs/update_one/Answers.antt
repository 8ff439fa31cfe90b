use Rattle.cholesky.proofs.Updates.{one-done}
use Rattle.cholesky.proofs.update_one.Goals as goal

pub returns : goal.returns
returns c = search one-done
