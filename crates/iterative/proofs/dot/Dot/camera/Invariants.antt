use mathlib.Core.Path.{◌≡◌}
use Rattle.std.proofs.Common.{None}
use Rattle.field.specs.Buffer.{load, vector}
use Rattle.field.specs.Count.{lowest, upto}
use Rattle.field.specs.Vec.{origin}
use Rattle.iterative.specs.Method.{axis}
use Rattle.iterative.specs.Problem.{dot_step, not_finite_after}
use Rattle.iterative.proofs.dot.Dot.camera.Given as goal

-- the sum so far, which has been finite in component k
abbrev pub invariant-loop-i : goal.invariant-loop-i
invariant-loop-i l =
    let d = l.self in
    let f = load vector l.work d.first d.cameras in
    let g = load vector l.work d.second d.cameras in
    (l.sum ≡ upto (dot_step d.anchor f g) l.i origin) × (lowest (not_finite_after d.anchor f g (axis l.k)) l.i ≡ None)
