use Rattle.std.proofs.Common.{◌≡◌}
use Rattle.operator.specs.inner.Applied.{applied}
use Rattle.operator.specs.Operator.{point_step, times}
use Rattle.operator.proofs.points_pass.Given as goal

abbrev pub invariant-loop-p : goal.invariant-loop-p
invariant-loop-p l =
    l.work ≡ applied l.links.shape l.f.from l.f.into (times (point_step l.links l.f.anchor) l.p) l.initial.work
