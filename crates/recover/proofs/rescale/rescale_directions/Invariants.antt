use Rattle.std.proofs.Common.{◌≡◌, ◌-◌}
use Rattle.field.specs.Buffer.{vectors_in}
use Rattle.recover.specs.inner.Order.{own_row, stored_at, direction_scale}
use Rattle.recover.proofs.rescale.rescale_directions.Given as goal

abbrev pub invariant-loop-r : goal.invariant-loop-r
invariant-loop-r l = l.out ≡ stored_at own_row (direction_scale l.i.net.shape l.i.net.ends l.i.net.rays l.i.net.weights l.i.net.scales l.i.net.positions (vectors_in l.i.cameras)) l.i.net.shape.bearings (l.r - l.i.net.shape.bearings) l.initial.out
