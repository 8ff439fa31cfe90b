use Rattle.iterative.proofs.Solving.{tested-done}
use Rattle.iterative.proofs.ends.finish.Goals as goal

pub returns : goal.returns
returns c = search tested-done
