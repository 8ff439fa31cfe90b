use Rattle.operator.proofs.Passes.{sum-none, sum_more}
use Rattle.operator.proofs.point_sum.Goals as goal

pub loop-i-init : goal.loop-i-init
loop-i-init c = search sum-none

pub loop-i-preserved : goal.loop-i-preserved
loop-i-preserved c = let w = rw c.ends-e.ensures at c.weighted.ensures in search sum_more
