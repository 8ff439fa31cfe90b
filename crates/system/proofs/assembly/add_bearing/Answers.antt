use Rattle.system.proofs.Rows.{bearing-added}
use Rattle.system.proofs.assembly.add_bearing.Goals as goal

pub returns : goal.returns
returns c = search bearing-added
