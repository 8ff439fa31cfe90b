use mathlib.Core.Path.{◌≡◌}
use Rattle.field.specs.Count.{field}
use Rattle.field.specs.Buffer.{load, store, vector}
use Rattle.system.specs.Work.{positions_at, dense_right_at}
use Rattle.dense.specs.Dense.{camera_vector}
use Rattle.dense.proofs.cameras.spread.Given as goal

abbrev pub invariant-loop-c : goal.invariant-loop-c
invariant-loop-c l =
    let m = l.system in
    l.work ≡ store vector l.initial.work (positions_at m.shape) (field l.c (camera_vector m.anchor (load vector l.initial.work (dense_right_at m.shape m.size) m.size)))
