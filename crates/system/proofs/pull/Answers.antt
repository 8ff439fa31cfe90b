use Rattle.system.specs.System.{pull_in}
use Rattle.system.proofs.pull.Goals as goal

pub returns : goal.returns
unfolding pull_in
returns c = cc
