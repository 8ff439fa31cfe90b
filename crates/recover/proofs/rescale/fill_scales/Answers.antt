use Rattle.recover.proofs.Rescaling.{scales-stored}
use Rattle.recover.proofs.rescale.fill_scales.Goals as goal

pub returns : goal.returns
returns c = search scales-stored
