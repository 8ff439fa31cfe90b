use Rattle.recover.proofs.Points.{points-more, points-ended}
use Rattle.field.proofs.Buffers.{store-none}
use Rattle.recover.proofs.recover_points.Goals as goal

pub loop-p-init : goal.loop-p-init
loop-p-init c = search store-none

pub loop-p-preserved : goal.loop-p-preserved
loop-p-preserved c = search points-more

pub returns : goal.returns
returns c =
    let b = rw c.shape-p-end.ensures.value at c.loop-p.auto.p-end in
    let e = rw c.shape-p-end.ensures.value at c.loop-p-test.false in
    search points-ended
