use Rattle.system.proofs.Sums.{point-done}
use Rattle.system.proofs.points.sum_point.Goals as goal

pub returns : goal.returns
returns c = let k = rw c.links.ensures.value at c.span.ensures in search point-done
