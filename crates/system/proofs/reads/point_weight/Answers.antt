use Rattle.system.proofs.Segments.{read_at}
use Rattle.system.proofs.reads.point_weight.Goals as goal

pub returns : goal.returns
returns c = search read_at
