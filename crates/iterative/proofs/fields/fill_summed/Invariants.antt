use Prim.Native.Nat.{ℕ}
use Rattle.field.specs.declared.Vec3.{Vec3}
use Rattle.iterative.specs.inner.Solver.{Makes}
use Rattle.iterative.specs.inner.Solver.{Summed}
use Rattle.iterative.proofs.fields.fill_summed.Given as goal

abbrev pub invariant-loop-i : goal.invariant-loop-i
invariant-loop-i g l =
    (y : ℕ → Vec3) → Makes (goal.F-post g l.f) y l.n l.into l.initial.work → Summed y l.n l.anchor l.with l.into l.initial.work l.i l.work l.sum
