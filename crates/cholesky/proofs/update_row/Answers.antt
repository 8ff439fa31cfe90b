use Prim.Native.Nat.{◌+◌, ◌≤◌}
use native.Mathlib.Omega.{arith}
use Rattle.cholesky.proofs.Updates.{row_next}
use Rattle.cholesky.proofs.update_row.Goals as goal

pub loop-t-preserved : goal.loop-t-preserved
loop-t-preserved c = let h : c.args.c.now.from + c.args.w ≤ c.args.c.now.size = omega arith in search row_next
