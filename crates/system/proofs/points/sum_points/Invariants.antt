use Rattle.std.proofs.Common.{◌≡◌}
use Rattle.system.specs.System.{row_sums}
use Rattle.system.specs.inner.Formed.{summed}
use Rattle.system.proofs.points.sum_points.Given as goal

abbrev pub invariant-loop-p : goal.invariant-loop-p
invariant-loop-p l = l.work ≡ summed l.rows.links.shape (row_sums l.rows) l.initial.work l.p
