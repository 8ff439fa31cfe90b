use Rattle.recover.proofs.Cameras.{part-whole, part_none}
use Rattle.recover.proofs.part.camera_part.Goals as goal

pub returns-then-i-cameras : goal.returns-then-i-cameras
returns-then-i-cameras c = search part-whole

pub returns-else-i-cameras : goal.returns-else-i-cameras
returns-else-i-cameras c = search part_none
