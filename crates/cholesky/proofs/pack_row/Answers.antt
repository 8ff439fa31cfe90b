use Rattle.cholesky.proofs.Fours.{packed-done}
use Rattle.cholesky.proofs.pack_row.Goals as goal

pub returns : goal.returns
returns c = search packed-done
