use Rattle.recover.proofs.Points.{camera-weighted}
use Rattle.recover.proofs.point.weighted_camera.Goals as goal

pub returns : goal.returns
returns c =
    let p = rw c.shape-s.ensures.value at c.placed_camera-camera.ensures in
    let w = rw c.shape-s.ensures.value at c.row_weight.ensures in
    search camera-weighted
