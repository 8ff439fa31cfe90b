use Rattle.dense.proofs.Changes.{changes-none}
use Rattle.dense.proofs.Steps.{points-more}
use Rattle.dense.proofs.couplings.couple_points.Goals as goal

pub loop-p-init : goal.loop-p-init
loop-p-init c = search changes-none

pub loop-p-preserved : goal.loop-p-preserved
loop-p-preserved c = let h = rw c.shape-p-end.ensures.value at c.loop-p-test.true in search points-more
