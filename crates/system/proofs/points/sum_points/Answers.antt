use Rattle.system.proofs.Sums.{points_none, points-more}
use Rattle.system.proofs.points.sum_points.Goals as goal

pub loop-p-init : goal.loop-p-init
loop-p-init c = search points_none

pub loop-p-preserved : goal.loop-p-preserved
loop-p-preserved c = let h = rw c.shape-p-end.ensures.value at c.loop-p-test.true in search points-more
