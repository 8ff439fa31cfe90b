use Rattle.system.proofs.Segments.{read3-at}
use Rattle.system.proofs.reads.mean_offset.Goals as goal

pub returns : goal.returns
returns c = search read3-at
