use Rattle.operator.proofs.Passes.{list-more, none}
use Rattle.operator.proofs.point_gain.Goals as goal

pub loop-i-init : goal.loop-i-init
loop-i-init c = search none

pub loop-i-preserved : goal.loop-i-preserved
loop-i-preserved c = let b = rw c.ends-e.ensures at c.bearing_step.ensures in search list-more
