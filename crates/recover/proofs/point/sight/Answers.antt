use Rattle.recover.proofs.Points.{sighted}
use Rattle.recover.proofs.point.sight.Goals as goal

pub returns : goal.returns
returns c = let v = rw (c.ends.ensures, c.links.ensures.value) at c.weighted_camera-camera.ensures in search sighted
