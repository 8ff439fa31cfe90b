use mathlib.Core.Path.{◌≡◌}
use Rattle.dense.specs.Matrix.{times, diagonal_step}
use Rattle.dense.specs.inner.Held.{matrix_changed}
use Rattle.dense.proofs.matrix.set_diagonals.Given as goal

abbrev pub invariant-loop-c : goal.invariant-loop-c
invariant-loop-c l =
    let m = l.system in
    l.work ≡ matrix_changed m.shape m.size (times (diagonal_step m.anchor m.size) l.c) l.initial.work
