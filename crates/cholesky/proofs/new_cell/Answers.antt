use Rattle.cholesky.proofs.Updates.{new-cell}
use Rattle.cholesky.proofs.new_cell.Goals as goal

pub returns : goal.returns
returns c = search new-cell
