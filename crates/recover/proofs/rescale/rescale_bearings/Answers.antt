use Rattle.recover.proofs.Rescaling.{points_none, points-more}
use Rattle.recover.proofs.rescale.rescale_bearings.Goals as goal

pub loop-p-init : goal.loop-p-init
loop-p-init c = let L = rw (c.links.ensures.value, c.rows.ensures) at c.links.ensures.sound in search points_none

pub loop-p-preserved : goal.loop-p-preserved
loop-p-preserved c =
    let L = rw (c.links.ensures.value, c.rows.ensures) at c.links.ensures.sound in
    let h = rw (c.shape-p-end.ensures.value, c.links.ensures.value, c.rows.ensures) at c.loop-p-test.true in
    search points-more
