use Rattle.cholesky.proofs.Substitution.{vector-taken}
use Rattle.cholesky.proofs.take_vector.Goals as goal

pub returns : goal.returns
returns c = search vector-taken
