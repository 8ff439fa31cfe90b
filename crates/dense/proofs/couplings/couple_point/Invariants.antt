use mathlib.Core.Path.{◌≡◌}
use Rattle.dense.specs.Matrix.{times, place_step}
use Rattle.dense.specs.inner.Held.{matrix_changed}
use Rattle.dense.proofs.couplings.couple_point.Given as goal

abbrev pub invariant-loop-i : goal.invariant-loop-i
invariant-loop-i l =
    l.work ≡ matrix_changed l.links.shape l.system.size (times (place_step l.system.anchor l.system.size l.links.ends l.links.listed l.w l.k) l.i) l.initial.work
