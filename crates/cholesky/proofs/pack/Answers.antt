use Rattle.cholesky.proofs.Updates.{packed_more}
use Rattle.cholesky.proofs.pack.Goals as goal

pub loop-t-preserved : goal.loop-t-preserved
loop-t-preserved c = (c.pack_row.array_long, search packed_more)
