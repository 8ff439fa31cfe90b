use Rattle.system.proofs.Rows.{direction-added}
use Rattle.system.proofs.assembly.add_direction.Goals as goal

pub returns : goal.returns
returns c = search direction-added
