use mathlib.Core.Path.{◌≡◌}
use Rattle.field.specs.Buffer.{load, vector}
use Rattle.field.specs.Count.{upto}
use Rattle.field.specs.Vec.{origin}
use Rattle.iterative.specs.Problem.{dot_step}
use Rattle.iterative.proofs.dot.Dot.sum.Given as goal

abbrev pub invariant-loop-i : goal.invariant-loop-i
invariant-loop-i l =
    let d = l.self in
    l.sum ≡ upto (dot_step d.anchor (load vector l.work d.first d.cameras) (load vector l.work d.second d.cameras)) l.i origin
