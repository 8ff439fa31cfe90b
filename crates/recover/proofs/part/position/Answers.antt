use Rattle.recover.proofs.Cameras.{part-long, part-vector}
use Rattle.recover.proofs.part.position.Goals as goal

pub get3-requires : goal.get3-requires
get3-requires c = search part-long

pub returns : goal.returns
returns c = search part-vector
