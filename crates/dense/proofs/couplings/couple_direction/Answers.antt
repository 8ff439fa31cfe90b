use Rattle.dense.proofs.Indices.{own-room, own-camera}
use Rattle.dense.proofs.Steps.{direction-coupled}
use Rattle.dense.proofs.couplings.couple_direction.Goals as goal

pub couple_cameras-requires-clause-room : goal.couple_cameras-requires-clause-room
couple_cameras-requires-clause-room c = search own-room

pub couple_cameras-requires-clause-i_bound : goal.couple_cameras-requires-clause-i_bound
couple_cameras-requires-clause-i_bound c = (search own-camera, search own-camera)

pub returns : goal.returns
returns c = search direction-coupled
