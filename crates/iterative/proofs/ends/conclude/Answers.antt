use Rattle.iterative.proofs.Solving.{concluded}
use Rattle.iterative.proofs.ends.conclude.Goals as goal

pub returns : goal.returns
returns c = concluded _ _ _ _ _ _ _ c.in-Continue.is c.judge.ensures
