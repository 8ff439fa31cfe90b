use Rattle.cholesky.proofs.Substitution.{forward-rows-ended, forward-rows-more, forward-rows-none}
use Rattle.cholesky.proofs.forward.Goals as goal

pub loop-i-init : goal.loop-i-init
loop-i-init c = search forward-rows-none

pub loop-i-preserved : goal.loop-i-preserved
loop-i-preserved c = search forward-rows-more

pub returns : goal.returns
returns c = search forward-rows-ended
