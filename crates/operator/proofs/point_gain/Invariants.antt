use Rattle.std.proofs.Common.{◌≡◌}
use Rattle.operator.specs.inner.Applied.{applied}
use Rattle.operator.specs.Operator.{list_step, times}
use Rattle.operator.proofs.point_gain.Given as goal

abbrev pub invariant-loop-i : goal.invariant-loop-i
invariant-loop-i l = l.work ≡ applied l.links.shape l.f.from l.f.into (times (list_step l.links.ends l.links.listed l.k l.f.anchor l.u) l.i) l.initial.work
