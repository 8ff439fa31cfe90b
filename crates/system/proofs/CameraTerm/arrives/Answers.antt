use Rattle.system.proofs.Terms.{arrives-by}
use Rattle.system.proofs.CameraTerm.arrives.Goals as goal

pub returns : goal.returns
returns c = search arrives-by
