use Rattle.std.proofs.Common.{◌≡◌}
use Rattle.field.specs.Count.{field}
use Rattle.field.specs.Buffer.{store, number}
use Rattle.system.specs.System.{effective_in}
use Rattle.system.proofs.points.fill_effective.Given as goal

abbrev pub invariant-loop-r : goal.invariant-loop-r
invariant-loop-r l = l.weight-items ≡ store number l.initial.weight-items 0 (field l.r (effective_in l.rows.weights l.rows.scales))
