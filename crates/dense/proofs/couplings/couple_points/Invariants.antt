use mathlib.Core.Path.{◌≡◌}
use Rattle.dense.specs.Matrix.{times, point_step}
use Rattle.dense.specs.inner.Held.{matrix_changed}
use Rattle.dense.proofs.couplings.couple_points.Given as goal

abbrev pub invariant-loop-p : goal.invariant-loop-p
invariant-loop-p l =
    l.work ≡ matrix_changed l.links.shape l.system.size (times (point_step l.system.anchor l.system.size l.links) l.p) l.initial.work
