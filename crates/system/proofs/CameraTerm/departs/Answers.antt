use Rattle.system.proofs.Terms.{departs-by}
use Rattle.system.proofs.CameraTerm.departs.Goals as goal

pub returns : goal.returns
returns c = search departs-by
