use Rattle.system.proofs.Segments.{needed-is}
use Rattle.system.proofs.work.work_needed.Goals as goal

pub returns : goal.returns
returns c = search needed-is
