use Rattle.cholesky.proofs.Finished.{remainder-more}
use Rattle.cholesky.proofs.remainder.Goals as goal

pub loop-k-preserved : goal.loop-k-preserved
loop-k-preserved c = search remainder-more
