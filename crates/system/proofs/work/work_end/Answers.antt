use native.Mathlib.Omega.{arith}
use Rattle.network.proofs.Sound.{square-small}
use Rattle.system.proofs.work.work_end.Goals as goal

pub overflow_add-result : goal.overflow_add-result
overflow_add-result c = omega (arith, square-small _ c.requires.d_bound)
