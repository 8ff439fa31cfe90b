use Rattle.iterative.proofs.Solving.{started}
use Rattle.iterative.proofs.ends.start.Goals as goal

pub returns : goal.returns
returns c = search started
