use Rattle.cholesky.proofs.Factored.{given}
use Rattle.cholesky.proofs.Panels.{last_done, last-refused, last-stopped}
use Rattle.cholesky.proofs.last_rows.Goals as goal

pub returns-in_err-finish_rows : goal.returns-in_err-finish_rows
returns-in_err-finish_rows c = rw (given c.from_residual.ensures.1) (search (last-stopped, c.in_err-finish_rows.was))

pub returns-then-rows-d : goal.returns-then-rows-d
returns-then-rows-d c = search (last-refused, c.in_ok-finish_rows.was)

pub returns : goal.returns
returns c = search (last_done, c.in_ok-finish_rows.was)
