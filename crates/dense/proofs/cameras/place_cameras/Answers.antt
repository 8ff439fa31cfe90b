use Rattle.cholesky.proofs.Factored.{given}
use Rattle.dense.proofs.Solving.{placed-stops, placed-done}
use Rattle.dense.proofs.cameras.place_cameras.Goals as goal

pub returns-in_err-solve_right : goal.returns-in_err-solve_right
returns-in_err-solve_right c = rw (given c.from_residual.ensures.1) (search (placed-stops, c.in_err-solve_right.was))

pub returns : goal.returns
returns c = search (placed-done, c.in_ok-solve_right.was)
