use Rattle.cholesky.proofs.Factored.{given}
use Rattle.dense.proofs.Solving.{matrix-stops, matrix-solved}
use Rattle.dense.proofs.solve_matrix.Goals as goal

pub returns-in_err-factor_matrix : goal.returns-in_err-factor_matrix
returns-in_err-factor_matrix c = rw (given c.from_residual.ensures.1) (search (matrix-stops, c.in_err-factor_matrix.was))

pub returns : goal.returns
returns c = search (matrix-solved, c.in_ok-factor_matrix.was)
