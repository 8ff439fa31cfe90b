use Rattle.cholesky.proofs.Updates.{unpacked}
use Rattle.cholesky.proofs.update_columns.Goals as goal

pub returns : goal.returns
returns c = search unpacked
