use Rattle.operator.proofs.Passes.{none, points-more}
use Rattle.operator.proofs.points_pass.Goals as goal

pub loop-p-init : goal.loop-p-init
loop-p-init c = search none

pub loop-p-preserved : goal.loop-p-preserved
loop-p-preserved c = search points-more
