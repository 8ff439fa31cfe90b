use Prim.Native.Nat.{◌≤◌}
use Rattle.cholesky.proofs.Factored.{given}
use Rattle.cholesky.proofs.Finished.{rows-ended, rows_more, rows_none, rows-stopped}
use native.Mathlib.Omega.{arith}
use Rattle.cholesky.proofs.finish_rows.Goals as goal

pub loop-i-init : goal.loop-i-init
loop-i-init c = search rows_none

pub returns-in_err-finish_row : goal.returns-in_err-finish_row
returns-in_err-finish_row c = rw (given c.from_residual.ensures.1) (search (rows-stopped, c.in_err-finish_row.was))

pub loop-i-preserved : goal.loop-i-preserved
loop-i-preserved c = search (rows_more, c.in_ok-finish_row.was)

pub returns : goal.returns
returns c = let h : c.loop-i.i ≤ c.args.to = omega arith in search rows-ended
