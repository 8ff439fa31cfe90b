use Rattle.layout.proofs.Stores.{head-stored}
use Rattle.layout.proofs.put.put_head.Goals as goal

pub returns : goal.returns
returns c = search head-stored
