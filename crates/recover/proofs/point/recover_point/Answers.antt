use Rattle.recover.proofs.Points.{point-kept, point-new}
use Rattle.recover.proofs.point.recover_point.Goals as goal

pub returns-then-w : goal.returns-then-w
returns-then-w c = let w = rw c.shape.ensures.value at c.point_weight-w.ensures in search point-kept

pub returns : goal.returns
returns c =
    let w = rw c.shape.ensures.value at c.point_weight-w.ensures in
    let k = rw c.links.ensures.value at c.span.ensures in
    search point-new
