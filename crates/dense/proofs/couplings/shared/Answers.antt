use Rattle.dense.proofs.Steps.{shared-read}
use Rattle.dense.proofs.couplings.shared.Goals as goal

pub returns : goal.returns
returns c = search shared-read
