use Rattle.system.proofs.Sums.{weight-none, weight-more}
use Rattle.system.proofs.points.point_weight.Goals as goal

pub loop-i-init : goal.loop-i-init
loop-i-init c = search weight-none

pub loop-i-preserved : goal.loop-i-preserved
loop-i-preserved c = search weight-more
