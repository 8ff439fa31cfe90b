use Rattle.image.proofs.Domain.{loops_is}
use Rattle.image.proofs.rows.ImageRows.loops.Goals as goal

pub returns : goal.returns
returns c = rw c.shape-s.ensures (search loops_is)
