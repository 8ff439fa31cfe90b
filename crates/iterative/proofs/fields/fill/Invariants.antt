use Prim.Native.Nat.{ℕ}
use mathlib.Core.Path.{◌≡◌}
use Rattle.field.specs.Buffer.{store, vector}
use Rattle.field.specs.Count.{field}
use Rattle.field.specs.declared.Vec3.{Vec3}
use Rattle.iterative.specs.inner.Solver.{Makes}
use Rattle.iterative.proofs.fields.fill.Given as goal

abbrev pub invariant-loop-i : goal.invariant-loop-i
invariant-loop-i g l =
    (y : ℕ → Vec3) → Makes (goal.F-post g l.f) y l.n l.into l.initial.work → l.work ≡ store vector l.initial.work l.into (field l.i y)
