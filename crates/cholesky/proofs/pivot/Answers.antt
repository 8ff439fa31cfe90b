use Rattle.cholesky.proofs.Finished.{pivot-done, pivot-stopped}
use Rattle.cholesky.proofs.pivot.Goals as goal

pub returns-then-is_positive : goal.returns-then-is_positive
returns-then-is_positive c = search pivot-done

pub returns : goal.returns
returns c = search pivot-stopped
