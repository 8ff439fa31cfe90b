use Rattle.network.proofs.Verdicts.{given}
use Rattle.iterative.proofs.Solving.{judged-failed, judged-placed}
use Rattle.iterative.proofs.ends.judge.Goals as goal

pub returns-in_err-finish : goal.returns-in_err-finish
returns-in_err-finish c = rw (given c.from_residual.ensures.1) (judged-failed _ _ _ _ _ _ c.finish.ensures c.in_err-finish.was)

pub returns : goal.returns
returns c = judged-placed _ _ _ _ _ _ c.finish.ensures c.in_ok-finish.was
