use Rattle.cholesky.proofs.Factored.{given}
use Rattle.cholesky.proofs.Panels.{columns-done, columns-stopped}
use Rattle.cholesky.proofs.four_columns.Goals as goal

pub returns-in_err-finish_rows : goal.returns-in_err-finish_rows
returns-in_err-finish_rows c = rw (given c.from_residual.ensures.1) (search (columns-stopped, c.in_err-finish_rows.was))

pub returns : goal.returns
returns c = search (columns-done, c.in_ok-finish_rows.was)
