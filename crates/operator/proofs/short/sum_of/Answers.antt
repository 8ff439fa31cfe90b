use Rattle.operator.proofs.Sights.{sum-none, sum-more}
use Rattle.operator.proofs.short.sum_of.Goals as goal

pub loop-s-init : goal.loop-s-init
loop-s-init g c = search sum-none

pub loop-s-preserved : goal.loop-s-preserved
loop-s-preserved g c = search sum-more
