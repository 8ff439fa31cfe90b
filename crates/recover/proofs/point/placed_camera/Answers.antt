use Rattle.recover.proofs.Points.{camera-at}
use Rattle.recover.proofs.point.placed_camera.Goals as goal

pub returns : goal.returns
returns c = search camera-at
