use Rattle.cholesky.proofs.Updates.{cell-done}
use Rattle.cholesky.proofs.update_cell.Goals as goal

pub returns : goal.returns
returns c = search cell-done
