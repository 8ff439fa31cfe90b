use Rattle.std.proofs.Common.{◌≡◌}
use Rattle.operator.specs.inner.Applied.{applied}
use Rattle.operator.specs.Operator.{direction_step, times}
use Rattle.operator.proofs.directions_pass.Given as goal

abbrev pub invariant-loop-d : goal.invariant-loop-d
invariant-loop-d l = l.work ≡ applied l.e.shape l.f.from l.f.into (times (direction_step l.e.shape.bearings l.e.ends l.f.anchor) l.d) l.initial.work
