use Rattle.cholesky.proofs.Substitution.{substituted}
use Rattle.cholesky.proofs.substitute.Goals as goal

pub returns : goal.returns
returns c = search substituted
