use mathlib.Core.Path.{◌≡◌}
use Rattle.field.specs.Count.{field}
use Rattle.field.specs.Buffer.{load, store, vector}
use Rattle.system.specs.Work.{term, dense_right_at}
use Rattle.dense.specs.Dense.{right_of}
use Rattle.dense.proofs.Indices.{rows_below}
use Rattle.dense.proofs.cameras.fill_right.Given as goal

abbrev pub invariant-loop-c : goal.invariant-loop-c
invariant-loop-c l =
    let m = l.system in
    l.work ≡ store vector l.initial.work (dense_right_at m.shape m.size) (field (rows_below m.anchor l.c) (right_of m.anchor (load term l.initial.work 0 m.shape.cameras)))
