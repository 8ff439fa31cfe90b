use Prim.Native.Nat.{◌+◌, ◌≤◌}
use native.Mathlib.Omega.{arith}
use Rattle.cholesky.proofs.Updates.{common-even, common-odd}
use Rattle.cholesky.proofs.update_common.Goals as goal

pub returns-then-w-eq1 : goal.returns-then-w-eq1
returns-then-w-eq1 c = let h : c.args.c.now.from + c.args.w ≤ c.args.c.now.size = omega arith in search common-odd

pub returns-else-w-eq1 : goal.returns-else-w-eq1
returns-else-w-eq1 c = search common-even
