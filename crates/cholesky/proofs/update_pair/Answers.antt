use Prim.Native.Nat.{◌+◌, ◌*◌, ◌≤◌}
use native.Mathlib.Omega.{arith}
use Rattle.cholesky.proofs.Updates.{pair-next}
use Rattle.cholesky.proofs.update_pair.Goals as goal

pub loop-t-preserved : goal.loop-t-preserved
loop-t-preserved c = let h : c.args.c.now.from + 2 * c.args.h ≤ c.args.c.now.size = omega arith in search pair-next
