use Rattle.cholesky.proofs.Substitution.{forward-vector-ended, forward-vector-more, forward-vector-none}
use Rattle.cholesky.proofs.forward_vector.Goals as goal

pub loop-k-init : goal.loop-k-init
loop-k-init c = search forward-vector-none

pub loop-k-preserved : goal.loop-k-preserved
loop-k-preserved c = search forward-vector-more

pub returns : goal.returns
returns c = search forward-vector-ended
