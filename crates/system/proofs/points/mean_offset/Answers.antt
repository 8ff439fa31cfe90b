use Rattle.system.proofs.Sums.{mean-above, mean-below}
use Rattle.system.proofs.points.mean_offset.Goals as goal

pub returns-then-w : goal.returns-then-w
returns-then-w c = search mean-above

pub returns-else-w : goal.returns-else-w
returns-else-w c = search mean-below
