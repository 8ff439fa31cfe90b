use Rattle.cholesky.proofs.Factored.{given}
use Rattle.cholesky.proofs.Substitution.{back-rows-ended, back-rows-more, back-rows-none, back-rows-stopped}
use Rattle.cholesky.proofs.back.Goals as goal

pub loop-i-init : goal.loop-i-init
loop-i-init c = search back-rows-none

pub returns-in_err-back_row : goal.returns-in_err-back_row
returns-in_err-back_row c = rw (given c.from_residual.ensures.1) (search (back-rows-stopped, c.in_err-back_row.was))

pub loop-i-preserved : goal.loop-i-preserved
loop-i-preserved c = search (back-rows-more, c.in_ok-back_row.was)

pub returns : goal.returns
returns c = search back-rows-ended
