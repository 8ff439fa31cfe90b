use Rattle.layout.proofs.Numbers.{length-bytes}
use Rattle.layout.proofs.Stores.{write-next}
use Rattle.layout.proofs.put.put_pair.Goals as goal

pub returns : goal.returns
returns c = search (write-next, length-bytes)
