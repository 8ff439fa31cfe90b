use Rattle.system.proofs.Sums.{point-stored}
use Rattle.system.proofs.points.store_point.Goals as goal

pub returns : goal.returns
returns c = let e = rw c.shape-s.ensures.value at c.put_sums.ensures in search point-stored
