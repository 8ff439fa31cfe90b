use Prim.Native.Nat.{◌≤◌}
use Rattle.cholesky.proofs.Factored.{given}
use Rattle.cholesky.proofs.Finished.{row-ended, row_more, row-none, row-stopped}
use native.Mathlib.Omega.{arith}
use Rattle.cholesky.proofs.finish_row.Goals as goal

pub loop-j-init : goal.loop-j-init
loop-j-init c = search row-none

pub returns-in_err-factor_entry : goal.returns-in_err-factor_entry
returns-in_err-factor_entry c = rw (given c.from_residual.ensures.1) (search (row-stopped, c.in_err-factor_entry.was))

pub loop-j-preserved : goal.loop-j-preserved
loop-j-preserved c = search (row_more, c.in_ok-factor_entry.was)

pub returns : goal.returns
returns c = let h : c.loop-j.j ≤ c.args.i = omega arith in search row-ended
