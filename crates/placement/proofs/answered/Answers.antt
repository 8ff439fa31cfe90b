use Rattle.network.proofs.Verdicts.{handed-out}
use Rattle.placement.proofs.Placing.{answered-failed, answered-placed}
use Rattle.placement.proofs.answered.Goals as goal

pub returns-in_err-finish : goal.returns-in_err-finish
returns-in_err-finish c = handed-out c.from_residual.ensures.1 (search (answered-failed, c.in_err-finish.was))

pub returns : goal.returns
returns c = search (answered-placed, c.in_ok-finish.was)
