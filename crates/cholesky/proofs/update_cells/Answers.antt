use Prim.Native.Nat.{◌+◌, ◌<◌}
use native.Mathlib.Omega.{arith}
use Rattle.cholesky.proofs.Updates.{cells-done}
use Rattle.cholesky.proofs.update_cells.Goals as goal

pub returns : goal.returns
returns c = let h : c.args.c.now.from + c.args.t < c.args.c.now.size = omega arith in search cells-done
