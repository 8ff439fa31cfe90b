use mathlib.Core.Path.{◌≡◌}
use Rattle.dense.specs.Matrix.{times, with_step}
use Rattle.dense.specs.inner.Held.{matrix_changed}
use Rattle.dense.proofs.couplings.couple_with.Given as goal

abbrev pub invariant-loop-j : goal.invariant-loop-j
invariant-loop-j l =
    l.work ≡ matrix_changed l.links.shape l.system.size (times (with_step l.system.anchor l.system.size l.links.ends l.links.listed l.w l.r l.k) l.j) l.initial.work
