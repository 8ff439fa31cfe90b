use Rattle.layout.proofs.Stores.{double-stored}
use Rattle.layout.proofs.put.put_double.Goals as goal

pub returns : goal.returns
returns c = search double-stored
