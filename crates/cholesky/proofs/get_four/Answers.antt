use Rattle.cholesky.proofs.Fours.{four-read}
use Rattle.cholesky.proofs.get_four.Goals as goal

pub returns : goal.returns
returns c = search four-read
