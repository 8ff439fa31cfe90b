use Rattle.std.proofs.Common.{◌≡◌}
use Rattle.system.specs.System.{pull_in, assemble_rows}
use Rattle.system.specs.inner.Formed.{added}
use Rattle.system.proofs.assembly.assemble_rows.Given as goal

abbrev pub invariant-loop-r : goal.invariant-loop-r
invariant-loop-r l = l.work ≡ added l.rows.links.shape (pull_in l.rows.rays l.rows.weights l.rows.scales) (assemble_rows l.rows.links.shape l.rows.links.ends l.r) l.initial.work
