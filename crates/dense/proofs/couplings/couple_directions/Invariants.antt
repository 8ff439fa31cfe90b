use mathlib.Core.Path.{◌≡◌}
use Rattle.dense.specs.Matrix.{times, direction_step}
use Rattle.dense.specs.inner.Held.{matrix_changed}
use Rattle.dense.proofs.couplings.couple_directions.Given as goal

abbrev pub invariant-loop-k : goal.invariant-loop-k
invariant-loop-k l =
    l.work ≡ matrix_changed l.ends.shape l.system.size (times (direction_step l.system.anchor l.system.size l.ends.shape.bearings l.ends.ends) l.k) l.initial.work
